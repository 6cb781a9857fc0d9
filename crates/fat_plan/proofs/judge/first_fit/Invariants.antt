use Prim.Native.Nat.{◌-◌}
use Rattle.fat_plan.proofs.Sweeps.{Sweeping, Fitting}
use Rattle.fat_plan.proofs.judge.first_fit.Given as goal

abbrev pub invariant-loop-b : goal.invariant-loop-b
invariant-loop-b l = Sweeping (Fitting l.k) l.n l.table l.work l.b

abbrev pub decreases-loop-b : goal.decreases-loop-b
decreases-loop-b l = l.n - l.b
