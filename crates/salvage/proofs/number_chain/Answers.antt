-- `salvage::number_chain` meets its contract.
use native.Mathlib.Omega.{arith}
use Rattle.salvage.proofs.Fills.{fill_begin, fill_end, fill_some, fill_node, fill_below, fill_fits, fill_next}
use Rattle.salvage.proofs.number_chain.Goals as goal

pub overflow_add-i : goal.overflow_add-i
overflow_add-i c = omega arith

pub loop-at-init : goal.loop-at-init
loop-at-init c = search fill_begin

pub overflow_sub-b : goal.overflow_sub-b
overflow_sub-b c = search fill_some

pub size_of-size-requires : goal.size_of-size-requires
size_of-size-requires c = record { table_len = c.requires.table_len; b_lt_n = (fill_below _ _ _ _ _ _ _ _ c.loop-at.invariant _ c.requires.count_value.0 c.loop-at-test.true, c.requires.n_bound.0); by_index = fill_node _ _ _ _ _ _ _ _ c.loop-at.invariant _ c.requires.count_value.0 c.loop-at-test.true }

pub overflow_add-from : goal.overflow_add-from
overflow_add-from c =
    omega (arith, c.loop-at-test.true, c.requires.count_value.1)

pub number_run-requires : goal.number_run-requires
number_run-requires c = let z = fill_fits _ _ _ _ _ _ _ _ c.loop-at.invariant _ c.requires.count_value.0 c.loop-at-test.true _ c.size_of-size.ensures in record { size_in_bounds = omega (arith, z.0, c.requires.count_value.1, c.loop-at.invariant.long); size_bound = omega (arith, z.2, c.requires.n_bound.0) }

pub overflow_add-at : goal.overflow_add-at
overflow_add-at c =
    let z = fill_fits _ _ _ _ _ _ _ _ c.loop-at.invariant _ c.requires.count_value.0 c.loop-at-test.true _ c.size_of-size.ensures in
    omega (arith, z.0)

pub next_of-i-requires : goal.next_of-i-requires
next_of-i-requires c =
    let z = fill_fits _ _ _ _ _ _ _ _ c.loop-at.invariant _ c.requires.count_value.0 c.loop-at-test.true _ c.size_of-size.ensures in
    omega (arith, z.1, z.2, c.requires.table_len)

pub loop-at-smaller : goal.loop-at-smaller
loop-at-smaller c =
    let z = fill_fits _ _ _ _ _ _ _ _ c.loop-at.invariant _ c.requires.count_value.0 c.loop-at-test.true _ c.size_of-size.ensures in
    omega (arith, z.0, z.1)

pub loop-at-preserved : goal.loop-at-preserved
loop-at-preserved c = search fill_next

pub returns : goal.returns
returns c = search fill_end
