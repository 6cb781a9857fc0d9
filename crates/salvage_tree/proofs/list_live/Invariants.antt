-- `salvage_tree::list_live` meets its contract.
use Rattle.salvage_tree.proofs.Loops.{Listing}
use Rattle.salvage_tree.proofs.list_live.Given as goal

abbrev pub invariant-loop-x : goal.invariant-loop-x
invariant-loop-x l = Listing l.n l.work l.initial.list l.list l.x l.at
