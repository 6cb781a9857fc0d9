-- `tree_aged::ends` meets its contract.
use Rattle.tree_aged.proofs.Walks.{left, Going}
use Rattle.tree_aged.proofs.ends.Given as goal

abbrev pub invariant-loop-x : goal.invariant-loop-x
invariant-loop-x l = Going l.w l.table l.y l.initial.work l.work l.x

abbrev pub decreases-loop-x : goal.decreases-loop-x
decreases-loop-x l = left l.work
