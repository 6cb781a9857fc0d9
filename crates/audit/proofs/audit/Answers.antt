use Rattle.audit.proofs.Public.{audit_ready, audit_refused, audit_passed}
use borrow.Author.Rules.{rules}
use Rattle.audit.proofs.audit.Goals as goal

pub returns-in_err-gate : goal.returns-in_err-gate
returns-in_err-gate c = audit_refused _ _ _ _ _ _ _ _ _ c.in_err-gate.ensures (search rules)

pub audit_open-requires : goal.audit_open-requires
audit_open-requires c = audit_ready _ _ _ _ _ _ _ _ _ c.in_ok-gate.ensures

pub returns : goal.returns
returns c = audit_passed _ _ _ _ _ _ _ _ _ c.in_ok-gate.ensures c.audit_open.ensures
