use Prim.Native.Nat.{◌-◌}
use Rattle.fat_merge.proofs.Loops.{Skipping}
use Rattle.fat_merge.proofs.skip.Given as goal

abbrev pub invariant-loop-b : goal.invariant-loop-b
invariant-loop-b l = Skipping l.n l.table l.work l.from l.b

abbrev pub decreases-loop-b : goal.decreases-loop-b
decreases-loop-b l = l.n - l.b
