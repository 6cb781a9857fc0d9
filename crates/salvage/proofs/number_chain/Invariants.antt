-- `salvage::number_chain` meets its contract.
use Prim.Native.Nat.{◌-◌}
use Rattle.salvage.specs.Follow.{salvaged}
use Rattle.salvage.proofs.Fills.{Filling}
use Rattle.salvage.proofs.number_chain.Given as goal

abbrev pub invariant-loop-at : goal.invariant-loop-at
invariant-loop-at l = Filling l.n l.table (salvaged l.n l.table l.first).runs l.from l.initial.list l.i l.at l.list

abbrev pub decreases-loop-at : goal.decreases-loop-at
decreases-loop-at l = l.count - l.at
