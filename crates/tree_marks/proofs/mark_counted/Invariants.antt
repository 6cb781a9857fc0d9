-- `mark_counted` meets its contract.
use Rattle.tree_table.specs.Chain.{link_at}
use Rattle.tree_marks.proofs.Walks.{zeros, Counting}
use Rattle.tree_marks.proofs.mark_counted.Given as goal

abbrev pub invariant-loop-x : goal.invariant-loop-x
invariant-loop-x l = Counting (link_at l.table l.w l.link) l.count l.first l.m l.off l.initial.work l.work l.x l.n

abbrev pub decreases-loop-x : goal.decreases-loop-x
decreases-loop-x l = zeros l.work
