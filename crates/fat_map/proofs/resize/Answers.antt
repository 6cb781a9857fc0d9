use Rattle.fat_map.proofs.Public.{map_words, map_ready, map_is, map_refused, resize_passed}
use Rattle.fat_map.proofs.Parts.{part_long}
use borrow.Author.Rules.{rules}
use Rattle.fat_map.proofs.resize.Goals as goal

pub returns-in_err-change_gate : goal.returns-in_err-change_gate
returns-in_err-change_gate c = map_refused _ _ _ _ _ _ _ _ _ _ _ _ c.in_err-change_gate.ensures (search rules)

pub slice_bounds-resize_mapped-end : goal.slice_bounds-resize_mapped-end
slice_bounds-resize_mapped-end c = map_words _ _ _ _ _ _ c.in_ok-change_gate.ensures _ c.blocks-n.ensures _ c.words_in-words.ensures

pub slice_bounds-resize_mapped-end-2 : goal.slice_bounds-resize_mapped-end-2
slice_bounds-resize_mapped-end-2 c = part_long _ _ (map_words _ _ _ _ _ _ c.in_ok-change_gate.ensures _ c.blocks-n.ensures _ c.words_in-words.ensures)

pub resize_mapped-requires : goal.resize_mapped-requires
resize_mapped-requires c = record {
  volume = map_ready _ _ _ _ _ _ c.in_ok-change_gate.ensures _ c.blocks-n.ensures;
  map_value = map_is _ _ _ _ _ _ c.in_ok-change_gate.ensures _ c.blocks-n.ensures _ c.words_in-words.ensures;
}

pub returns : goal.returns
returns c = resize_passed _ _ _ _ _ _ c.in_ok-change_gate.ensures _ c.blocks-n.ensures _ _ _ _ _ c.words_in-words.ensures c.resize_mapped.ensures
