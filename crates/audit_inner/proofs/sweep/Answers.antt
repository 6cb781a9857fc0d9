use Rattle.audit_inner.proofs.Sweeping.{swept}
use Rattle.audit_inner.proofs.sweep.Goals as goal

pub returns : goal.returns
returns c = search (swept)
