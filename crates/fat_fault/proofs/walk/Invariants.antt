-- `fat_fault::walk` meets its contract.
use Prim.Native.Nat.{◌-◌}
use Rattle.fat_fault.proofs.Passes.{Walking}
use Rattle.fat_fault.proofs.walk.Given as goal

abbrev pub invariant-loop-b : goal.invariant-loop-b
invariant-loop-b l = Walking l.n l.table l.work l.b

abbrev pub decreases-loop-b : goal.decreases-loop-b
decreases-loop-b l = l.n - l.b
