use Rattle.fat_walk.proofs.Hops.{Hopping}
use Prim.Native.Nat.{◌-◌}
use Rattle.fat_walk.proofs.starts_at.Given as goal

abbrev pub invariant-loop-c : goal.invariant-loop-c
invariant-loop-c l = Hopping l.n l.table l.b l.c

abbrev pub decreases-loop-c : goal.decreases-loop-c
decreases-loop-c l = l.b - l.c
