use Rattle.fat_plan.proofs.Finds.{Writing}
use Rattle.fat_plan.proofs.planner.write_moves.Given as goal

abbrev pub invariant-loop-i : goal.invariant-loop-i
invariant-loop-i l = Writing l.initial.list l.blocks l.k l.m l.list l.i
