use Prim.Native.Nat.{◌-◌}
use borrow.Author.Rules.{rules}
use Rattle.fat_plan.proofs.Sweeps.{sweep_marked, fit_begin, fit_end, fit_reading, fit_low, fit_passed, fit_found, fit_next, fit_less}
use Rattle.fat_plan.proofs.judge.first_fit.Goals as goal

pub loop-b-init : goal.loop-b-init
loop-b-init c = search fit_begin

pub past-end-requires : goal.past-end-requires
past-end-requires c = record { reading = search fit_reading; from_lt_n = search rules; fact = search sweep_marked }

pub overflow_sub-end : goal.overflow_sub-end
overflow_sub-end c = search fit_low

pub returns-then-k-end : goal.returns-then-k-end
returns-then-k-end c =
    fit_found _ _ _ _ c.requires _ c.loop-b.invariant _ c.past-end.ensures c.if-k-end.true

pub skip-b-requires-in-loop-b : goal.skip-b-requires-in-loop-b
skip-b-requires-in-loop-b c = search fit_passed

pub loop-b-smaller : goal.loop-b-smaller
loop-b-smaller c =
    fit_less _ _ _ _ c.requires _ c.loop-b.invariant _ c.past-end.ensures _ c.skip-b-in-loop-b.ensures

pub loop-b-preserved : goal.loop-b-preserved
loop-b-preserved c = search fit_next

pub returns : goal.returns
returns c = search fit_end
