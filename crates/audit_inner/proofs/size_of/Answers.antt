use Rattle.audit_inner.proofs.Judging.{size_sum}
use Rattle.audit_inner.proofs.size_of.Goals as goal

pub returns : goal.returns
returns c = search (size_sum)
