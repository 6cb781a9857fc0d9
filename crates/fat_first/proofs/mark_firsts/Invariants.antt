use Prim.Native.Nat.{◌-◌}
use Rattle.fat_first.proofs.Builds.{Building}
use Rattle.fat_first.proofs.mark_firsts.Given as goal

abbrev pub invariant-loop-b : goal.invariant-loop-b
invariant-loop-b l = Building l.n l.table l.initial.firsts l.firsts l.b

abbrev pub decreases-loop-b : goal.decreases-loop-b
decreases-loop-b l = l.n - l.b
