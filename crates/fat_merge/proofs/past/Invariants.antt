use Prim.Native.Nat.{◌-◌}
use Rattle.fat_merge.proofs.Loops.{Passing}
use Rattle.fat_merge.proofs.past.Given as goal

abbrev pub invariant-loop-end : goal.invariant-loop-end
invariant-loop-end l = Passing l.n l.table l.initial.work l.from l.work l.end

abbrev pub decreases-loop-end : goal.decreases-loop-end
decreases-loop-end l = l.n - l.end
