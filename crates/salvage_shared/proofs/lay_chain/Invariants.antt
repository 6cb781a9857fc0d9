-- `salvage_shared::lay_chain` meets its contract.
use Rattle.salvage_shared.specs.Inner.Says.{Added}
use Rattle.salvage_shared.proofs.Goings.{Going}
use Rattle.salvage_shared.proofs.lay_chain.Given as goal

abbrev pub invariant-loop-i : goal.invariant-loop-i
invariant-loop-i l = Going l.n l.table l.first l.i l.left (Added l.initial.work l.work)

abbrev pub decreases-loop-i : goal.decreases-loop-i
decreases-loop-i l = l.left
