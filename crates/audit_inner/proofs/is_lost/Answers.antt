use Rattle.audit_inner.proofs.Judging.{lost_never, lost_told}
use Rattle.audit_inner.proofs.is_lost.Goals as goal

pub returns-then-m-ne0 : goal.returns-then-m-ne0
returns-then-m-ne0 c = lost_told _ c.if-m-ne0.true

pub returns-else-m-ne0 : goal.returns-else-m-ne0
returns-else-m-ne0 c = lost_never _ c.if-m-ne0.false
