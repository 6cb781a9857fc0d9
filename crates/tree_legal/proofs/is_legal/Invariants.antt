use Rattle.tree_legal.proofs.Names.{Judging}
use Rattle.tree_legal.proofs.is_legal.Given as goal

abbrev pub invariant-loop-i : goal.invariant-loop-i
invariant-loop-i l = Judging l.name l.i
