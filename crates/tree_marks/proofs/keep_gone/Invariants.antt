use Rattle.tree_marks.proofs.Gathering.{Sifting}
use Rattle.tree_marks.proofs.keep_gone.Given as goal

abbrev pub invariant-loop-mark : goal.invariant-loop-mark
invariant-loop-mark l = Sifting l.initial.mark-items l.mark-items l.mark-index
