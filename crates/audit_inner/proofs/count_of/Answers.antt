use Rattle.audit_inner.proofs.Counted.{count_in}
use Rattle.audit_inner.proofs.count_of.Goals as goal

pub returns-in-Within : goal.returns-in-Within
returns-in-Within c = search count_in
