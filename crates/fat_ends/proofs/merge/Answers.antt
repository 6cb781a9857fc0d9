-- `fat_ends::merge` meets its contract.
use Rattle.std.proofs.Common.{refl, arith}
use Rattle.fat_ends.proofs.Joins.{places, packed_i, packed_j, both_fit, merged_small, merged_grown, merged_sunk, merged_large}
use Rattle.fat_ends.proofs.merge.Goals as goal

pub tie_ends-requires-clause-h_in_bounds : goal.tie_ends-requires-clause-h_in_bounds
tie_ends-requires-clause-h_in_bounds c = omega (arith, places c.requires.joinable)

pub returns-then-s-lt2048 : goal.returns-then-s-lt2048
returns-then-s-lt2048 c = merged_small c.requires.joinable refl c.if-s-lt2048.true c.tie_ends.ensures

pub tie_ends-requires-then-grows-clause-h_in_bounds : goal.tie_ends-requires-then-grows-clause-h_in_bounds
tie_ends-requires-then-grows-clause-h_in_bounds c = omega (arith, places c.requires.joinable)

pub returns-then-grows : goal.returns-then-grows
returns-then-grows c = merged_grown c.requires.joinable refl (c.grows.ensures c.if-grows.true) c.tie_ends-then-grows.ensures

pub bounds-work-z : goal.bounds-work-z
bounds-work-z c = omega (arith, places c.requires.joinable)

pub returns-then-grows-2 : goal.returns-then-grows-2
returns-then-grows-2 c = merged_sunk c.requires.joinable refl (c.grows-2.ensures c.if-grows-2.true) c.tie_ends-then-grows-2.ensures

pub sum_of-requires-clause-by_index : goal.sum_of-requires-clause-by_index
sum_of-requires-clause-by_index c = let J = c.requires.joinable in (_, (packed_i J, omega (arith, both_fit J)))

pub sum_of-requires-2-clause-h_in_bounds : goal.sum_of-requires-2-clause-h_in_bounds
sum_of-requires-2-clause-h_in_bounds c = omega (arith, places c.requires.joinable)

pub sum_of-requires-2-clause-by_index : goal.sum_of-requires-2-clause-by_index
sum_of-requires-2-clause-by_index c = let J = c.requires.joinable in (_, (packed_j J, omega (arith, both_fit J)))

pub overflow_add-m : goal.overflow_add-m
overflow_add-m c = let J = c.requires.joinable in omega (arith, c.sum_of.ensures _ (packed_i J), c.sum_of-2.ensures _ (packed_j J), both_fit J)

pub tie_ends-requires-2-clause-h_in_bounds : goal.tie_ends-requires-2-clause-h_in_bounds
tie_ends-requires-2-clause-h_in_bounds c = omega (arith, places c.requires.joinable)

pub tie_ends-requires-2-clause-p_bound : goal.tie_ends-requires-2-clause-p_bound
tie_ends-requires-2-clause-p_bound c =
    let J = c.requires.joinable in
    let p = c.sum_of.ensures _ (packed_i J) in
    let q = c.sum_of-2.ensures _ (packed_j J) in
    let f = both_fit J in
    omega arith

pub returns : goal.returns
returns c = merged_large c.requires.joinable refl c.sum_of.ensures c.sum_of-2.ensures c.tie_ends-2.ensures
