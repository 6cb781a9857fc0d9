use Rattle.fat_walk.proofs.Found.{are_bytes}
use Rattle.map_inner.proofs.Kept.{create_zero, all_out, create_full, cut_at, front_some, create_cut}
use borrow.Author.Rules.{rules}
use Rattle.map_inner.proofs.create_mapped.Goals as goal

pub returns-then-block_count-eq0 : goal.returns-then-block_count-eq0
returns-then-block_count-eq0 c = search (create_zero, are_bytes)

pub seek_take-requires : goal.seek_take-requires
seek_take-requires c = record { volume = search rules; first_value = (search rules, search rules); map_value = search rules }

pub draw-requires : goal.draw-requires
draw-requires c = record { volume = search rules; map_value = all_out _ _ c.requires.volume (are_bytes _ c.slice_known-1.given) _ _ _ c.seek_take.ensures _ _ c.in-Past.is }

pub create_step-requires : goal.create_step-requires
create_step-requires c = record { volume = search rules; take_at = cut_at _ _ c.requires.volume (are_bytes _ c.slice_known-1.given) _ _ _ c.seek_take.ensures _ _ c.in-Within.is }

pub overflow_sub-result : goal.overflow_sub-result
overflow_sub-result c = search (front_some, are_bytes)

pub returns-in-Past : goal.returns-in-Past
returns-in-Past c = search (create_full, are_bytes)

pub returns-in-Within : goal.returns-in-Within
returns-in-Within c = search (create_cut, are_bytes)
