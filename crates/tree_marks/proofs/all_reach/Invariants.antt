-- `all_reach` meets its contract.
use Rattle.tree_marks.proofs.Climbing.{Reaching}
use Rattle.tree_marks.proofs.all_reach.Given as goal

abbrev pub invariant-loop-y : goal.invariant-loop-y
invariant-loop-y l = Reaching l.count l.initial.work l.work l.y
