use Prim.Native.Nat.{◌-◌}
use Rattle.fat_merge.proofs.Loops.{Lays}
use Rattle.fat_merge.proofs.lay_from.Given as goal

abbrev pub invariant-loop-b : goal.invariant-loop-b
invariant-loop-b l = Lays l.n l.initial.table l.initial.work l.from l.table l.work l.b l.prev

abbrev pub decreases-loop-b : goal.decreases-loop-b
decreases-loop-b l = l.n - l.b
