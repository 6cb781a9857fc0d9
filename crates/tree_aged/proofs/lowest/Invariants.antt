-- `tree_aged::lowest` meets its contract.
use Rattle.tree_aged.proofs.Lowers.{Lowering}
use Rattle.tree_aged.proofs.lowest.Given as goal

abbrev pub invariant-loop-y : goal.invariant-loop-y
invariant-loop-y l = Lowering l.w l.table l.initial.work l.work l.y
