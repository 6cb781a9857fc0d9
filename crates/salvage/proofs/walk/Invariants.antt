-- `salvage::walk` meets its contract.
use Prim.Native.Nat.{◌-◌}
use Rattle.salvage.proofs.Walks.{Walking}
use Rattle.salvage.proofs.walk.Given as goal

abbrev pub invariant-loop-i : goal.invariant-loop-i
invariant-loop-i l = Walking l.n l.table l.first l.mark l.work l.i l.p l.count

abbrev pub decreases-loop-i : goal.decreases-loop-i
decreases-loop-i l = l.n - l.count
