use Rattle.fat_list.proofs.Lists.{fill_standing, fill_room, fill_fits, fill_next}
use native.Mathlib.Omega.{arith}
use Rattle.fat_list.proofs.number_chain.Goals as goal

pub size_at-size-requires : goal.size_at-size-requires
size_at-size-requires c = search fill_standing

pub number_run-requires : goal.number_run-requires
number_run-requires c = let z = fill_fits _ _ _ _ _ _ _ c.requires.chain_from.chain c.loop-i.invariant c.loop-i-test.true _ c.size_at-size.ensures c.requires.first_in_bounds in record { size_in_bounds = z.0; size_bound = z.2 }

pub overflow_add-at : goal.overflow_add-at
overflow_add-at c =
    let z = fill_fits _ _ _ _ _ _ _ c.requires.chain_from.chain c.loop-i.invariant c.loop-i-test.true _ c.size_at-size.ensures c.requires.first_in_bounds in
    omega (arith, z.0)

pub next_of-i-requires : goal.next_of-i-requires
next_of-i-requires c = search fill_room

pub loop-i-smaller : goal.loop-i-smaller
loop-i-smaller c =
    let z = fill_fits _ _ _ _ _ _ _ c.requires.chain_from.chain c.loop-i.invariant c.loop-i-test.true _ c.size_at-size.ensures c.requires.first_in_bounds in
    omega (arith, z.0, z.1, c.loop-i.invariant.long)

pub loop-i-preserved : goal.loop-i-preserved
loop-i-preserved c = search fill_next
