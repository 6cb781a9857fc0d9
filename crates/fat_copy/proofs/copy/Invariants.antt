use Rattle.fat_copy.proofs.Copied.{Copied}
use Rattle.fat_copy.proofs.copy.Given as goal

abbrev pub invariant-loop-i : goal.invariant-loop-i
invariant-loop-i l = Copied l.initial.dst l.src l.dst l.i
