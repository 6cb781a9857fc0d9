-- `flatten` meets its contract.
use Rattle.tree_marks.proofs.Climbing.{Flattening, marks_left}
use Rattle.tree_marks.proofs.flatten.Given as goal

abbrev pub invariant-loop-p : goal.invariant-loop-p
invariant-loop-p l = Flattening l.count l.y l.initial.work l.work l.x l.p

abbrev pub decreases-loop-p : goal.decreases-loop-p
decreases-loop-p l = marks_left l.work
