-- `check_parents` meets its contract.
use Rattle.tree_table.specs.Chain.{link_at}
use Rattle.tree_marks.specs.Inner.Marks.{mark_at}
use Rattle.tree_marks.specs.Inner.Gather.{ParentMarked}
use Rattle.tree_marks.proofs.Gathering.{Checking}
use Rattle.tree_marks.proofs.check_parents.Given as goal

abbrev pub invariant-loop-y : goal.invariant-loop-y
invariant-loop-y l = Checking (λ z. ParentMarked l.root z (mark_at l.work l.off z) (link_at l.table l.w 0 z)) l.y
