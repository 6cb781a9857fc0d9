use Rattle.audit_inner.proofs.Marking.{Going}
use Prim.Native.Nat.{◌-◌}
use Rattle.audit_inner.proofs.mark_chains.Given as goal

abbrev pub invariant-loop-b : goal.invariant-loop-b
invariant-loop-b l = Going l.n l.table l.initial.work l.work l.b

abbrev pub decreases-loop-b : goal.decreases-loop-b
decreases-loop-b l = l.n - l.b
