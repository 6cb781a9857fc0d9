use Rattle.audit_inner.proofs.Judging.{file_dead, file_empty, file_full}
use Rattle.audit_inner.proofs.judge_file.Goals as goal

pub returns-then-work-n-ne0 : goal.returns-then-work-n-ne0
returns-then-work-n-ne0 c = search (file_dead)

pub returns-then-size-eq0 : goal.returns-then-size-eq0
returns-then-size-eq0 c = search (file_empty)

pub returns : goal.returns
returns c = search (file_full)
