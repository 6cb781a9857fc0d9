use Rattle.fat_map.proofs.Public.{build_refused, build_passed}
use Rattle.fat_map.proofs.Parts.{part_long}
use Rattle.fat_map.proofs.Gates.{build_ready, build_fits, build_part}
use borrow.Author.Rules.{rules}
use Rattle.fat_map.proofs.build.Goals as goal

pub returns-in_err-gate : goal.returns-in_err-gate
returns-in_err-gate c = build_refused _ _ _ _ _ _ _ c.in_err-gate.ensures _ (search rules)

pub slice_bounds-build_sound-end : goal.slice_bounds-build_sound-end
slice_bounds-build_sound-end c = build_fits _ _ _ _ _ _ _ c.in_ok-gate.ensures _ c.blocks-n.ensures _ c.words_in-words.ensures

pub slice_bounds-build_sound-end-2 : goal.slice_bounds-build_sound-end-2
slice_bounds-build_sound-end-2 c = part_long _ _ (build_fits _ _ _ _ _ _ _ c.in_ok-gate.ensures _ c.blocks-n.ensures _ c.words_in-words.ensures)

pub build_sound-requires : goal.build_sound-requires
build_sound-requires c = record {
  volume = build_ready _ _ _ _ _ _ _ c.in_ok-gate.ensures _ c.blocks-n.ensures;
  map_len = build_part _ _ _ _ _ _ _ c.in_ok-gate.ensures _ c.blocks-n.ensures _ c.words_in-words.ensures;
}

pub returns : goal.returns
returns c = build_passed _ _ _ _ _ _ _ c.in_ok-gate.ensures _ _ _ c.blocks-n.ensures c.words_in-words.ensures c.build_sound.ensures
