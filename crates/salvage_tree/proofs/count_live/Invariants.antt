-- `salvage_tree::count_live` meets its contract.
use Rattle.salvage_tree.proofs.Loops.{Counted}
use Rattle.salvage_tree.proofs.count_live.Given as goal

abbrev pub invariant-loop-x : goal.invariant-loop-x
invariant-loop-x l = Counted l.marks l.x l.count
