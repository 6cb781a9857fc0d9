use Prim.Native.Nat.{◌-◌}
use Rattle.fat_plan.proofs.Sweeps.{Sweeping, Past}
use Rattle.fat_plan.proofs.judge.stands.Given as goal

abbrev pub invariant-loop-b : goal.invariant-loop-b
invariant-loop-b l = Sweeping (Past l.m) l.n l.table l.work l.b

abbrev pub decreases-loop-b : goal.decreases-loop-b
decreases-loop-b l = l.n - l.b
