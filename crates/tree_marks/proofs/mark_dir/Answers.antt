-- `mark_dir` meets its contract.
use Rattle.tree_marks.proofs.Gathering.{dir_none, dir_some}
use Rattle.tree_marks.proofs.mark_dir.Goals as goal

pub returns-then-work-i-eq-GONE : goal.returns-then-work-i-eq-GONE
returns-then-work-i-eq-GONE c = dir_none _ _ _ c.index-i.ensures c.if-work-i-eq-GONE.true

pub returns : goal.returns
returns c = dir_some c.index-i.ensures c.if-work-i-eq-GONE.false c.get_u32-first.ensures c.mark_list.ensures
