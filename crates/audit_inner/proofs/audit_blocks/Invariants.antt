use Rattle.audit_inner.proofs.Sweeping.{BlocksGoing}
use Rattle.audit_inner.proofs.audit_blocks.Given as goal

abbrev pub invariant-loop-b : goal.invariant-loop-b
invariant-loop-b l = BlocksGoing l.n l.found l.initial.work l.initial.list l.b l.work l.list l.count
