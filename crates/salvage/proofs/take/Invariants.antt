-- `salvage::take` meets its contract.
use Rattle.salvage.proofs.Walks.{Taking}
use Rattle.salvage.proofs.take.Given as goal

abbrev pub invariant-loop-x : goal.invariant-loop-x
invariant-loop-x l = Taking l.initial.work l.b l.x l.mark l.work
