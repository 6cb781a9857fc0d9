use borrow.Author.Rules.{rules}
use Rattle.fat_plan.proofs.Sweeps.{sweep_marked, stand_begin, stand_end, stand_reading, stand_passed, stand_before, stand_says, stand_next, stand_less}
use Rattle.fat_plan.proofs.judge.stands.Goals as goal

pub loop-b-init : goal.loop-b-init
loop-b-init c = search stand_begin

pub past-end-requires : goal.past-end-requires
past-end-requires c = record { reading = search stand_reading; from_lt_n = search rules; fact = search sweep_marked }

pub returns-then-b-m : goal.returns-then-b-m
returns-then-b-m c = search stand_says

pub returns-else-b-m : goal.returns-else-b-m
returns-else-b-m c = search stand_before

pub skip-b-requires-in-loop-b : goal.skip-b-requires-in-loop-b
skip-b-requires-in-loop-b c = search stand_passed

pub loop-b-smaller : goal.loop-b-smaller
loop-b-smaller c =
    stand_less _ _ _ _ _ c.requires.reading c.requires.m_bound.1 _ c.loop-b.invariant _ c.past-end.ensures _ c.skip-b-in-loop-b.ensures

pub loop-b-preserved : goal.loop-b-preserved
loop-b-preserved c = search stand_next

pub returns : goal.returns
returns c = search stand_end
