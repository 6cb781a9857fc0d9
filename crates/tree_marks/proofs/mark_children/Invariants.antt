-- `mark_children` meets its contract.
use Rattle.tree_table.specs.Chain.{link_at}
use Rattle.tree_marks.proofs.Gathering.{Children}
use Rattle.tree_marks.proofs.mark_children.Given as goal

abbrev pub invariant-loop-p : goal.invariant-loop-p
invariant-loop-p l = Children (link_at l.table l.w 20) l.count (link_at l.dirs 40 l.head) l.bound l.off l.initial.work l.work l.p
