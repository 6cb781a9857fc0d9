use Rattle.kiosk_inner.proofs.Chains.{Going}
use Prim.Native.Nat.{◌-◌}
use Rattle.kiosk_inner.proofs.is_scattered.Given as goal

abbrev pub invariant-loop-b : goal.invariant-loop-b
invariant-loop-b l = Going l.n l.table l.b

abbrev pub decreases-loop-b : goal.decreases-loop-b
decreases-loop-b l = l.n - l.b
