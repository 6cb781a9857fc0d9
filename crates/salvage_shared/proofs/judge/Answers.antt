-- `salvage_shared::judge` meets its contract.
use borrow.Author.Rules.{rules}
use Rattle.salvage_shared.proofs.Loops.{judge_out, judge_fits, judge_whole, judge_cut}
use Rattle.salvage_shared.proofs.judge.Goals as goal
use Rattle.salvage_shared.proofs.judge.Goals.{then-walked-eq0, else-walked-eq0}

pub returns-then-n-b : goal.returns-then-n-b
returns-then-n-b c = search (judge_out)

pub overflow_add-result : goal.overflow_add-result
overflow_add-result c = search (judge_fits, rules)

pub returns : goal.returns
returns c = elim c.if-walked-eq0.branch [ then-walked-eq0 w ↦ rw w.trust-is (search (judge_whole)) | else-walked-eq0 w ↦ rw w.trust-is (search (judge_cut)) ]
