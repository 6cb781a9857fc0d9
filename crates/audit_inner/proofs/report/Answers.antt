use Rattle.audit_inner.proofs.Sweeping.{report_short, report_done}
use borrow.Author.Rules.{rules}
use Rattle.audit_inner.proofs.report.Goals as goal

pub returns-then-list-count : goal.returns-then-list-count
returns-then-list-count c = search (report_short, rules)

pub returns : goal.returns
returns c = search (report_done, rules)
