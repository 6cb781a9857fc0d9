use native.Mathlib.Omega.{arith}
use borrow.Author.Rules.{rules}
use Rattle.fat_merge.proofs.Loops.{lays_begin, lays_marked, lays_reading, lays_passed, lays_fits, lays_next, lays_end}
use Rattle.fat_merge.proofs.lay_from.Goals as goal

pub loop-b-init : goal.loop-b-init
loop-b-init c = search lays_begin

pub past-end-requires : goal.past-end-requires
past-end-requires c = record { reading = search lays_reading; from_lt_n = search rules; fact = search lays_marked }

pub skip-after-requires : goal.skip-after-requires
skip-after-requires c = search lays_passed

pub overflow_sub-size : goal.overflow_sub-size
overflow_sub-size c =
    let z = lays_fits _ _ _ _ _ _ _ _ c.requires.reading c.loop-b.invariant _ _ c.past-end.ensures _ _ c.skip-after.ensures c.index_of-next.ensures in
    omega (arith, z.0)

pub set_node-requires : goal.set_node-requires
set_node-requires c = let z = lays_fits _ _ _ _ _ _ _ _ c.requires.reading c.loop-b.invariant _ _ c.past-end.ensures _ _ c.skip-after.ensures c.index_of-next.ensures in record { n_bound = (search rules, omega arith); le_size = (omega (arith, z.0), omega (arith, z.0, z.1, z.2)); prev_le_n = (omega arith, z.3) }

pub loop-b-smaller : goal.loop-b-smaller
loop-b-smaller c =
    let z = lays_fits _ _ _ _ _ _ _ _ c.requires.reading c.loop-b.invariant _ _ c.past-end.ensures _ _ c.skip-after.ensures c.index_of-next.ensures in
    omega (arith, z.0, z.1)

pub loop-b-preserved : goal.loop-b-preserved
loop-b-preserved c =
    lays_next _ _ _ _ _ _ _ _ c.requires.reading c.loop-b.invariant _ _ c.past-end.ensures _ _ c.skip-after.ensures c.index_of-next.ensures _ c.set_node.ensures

pub returns : goal.returns
returns c = search lays_end
