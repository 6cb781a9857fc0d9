use Rattle.fat_plan.proofs.Judges.{Matching}
use Rattle.fat_plan.proofs.judge.same_moves.Given as goal

abbrev pub invariant-loop-i : goal.invariant-loop-i
invariant-loop-i l = Matching l.plan l.list l.k l.i
