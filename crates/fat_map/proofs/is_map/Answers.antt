use Rattle.fat_map.proofs.Parts.{part_long, words_fit, words_held, scratch_zero, map_part, part_told, scratch_back}
use Rattle.fat_map.proofs.is_map.Goals as goal

pub slice_bounds-is_map-end-2 : goal.slice_bounds-is_map-end-2
slice_bounds-is_map-end-2 c = part_long _ _ (words_fit _ _ c.args.work.now c.words_in-words.ensures c.requires.n_in_bounds.0)

pub slice_bounds-is_map-end-3 : goal.slice_bounds-is_map-end-3
slice_bounds-is_map-end-3 c = part_long _ _ (words_held _ _ c.args.map.now c.words_in-words.ensures c.requires.n_in_bounds_2)

pub is_map-requires : goal.is_map-requires
is_map-requires c = record { volume = c.requires.volume; scratch_value = scratch_zero _ c.args.work.now c.requires.n_in_bounds.0 c.requires.n_in_bounds.1 _ c.words_in-words.ensures; map_len = map_part _ _ c.args.map.now c.words_in-words.ensures c.requires.n_in_bounds_2 }

pub returns : goal.returns
returns c = (part_told c.args.table.now _ _ c.args.map.now _ c.requires.n_value c.words_in-words.ensures c.is_map.ensures.0, scratch_back _ c.args.work.now c.requires.n_in_bounds.0 c.requires.n_in_bounds.1 _ _ c.words_in-words.ensures c.is_map.ensures.1)
