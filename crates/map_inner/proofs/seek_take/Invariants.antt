use Rattle.map_inner.proofs.Takes.{Taking}
use Rattle.map_inner.proofs.seek_take.Given as goal

abbrev pub invariant-loop-i : goal.invariant-loop-i
invariant-loop-i l = Taking l.n l.table l.count l.initial.map l.map l.i l.passed l.k

abbrev pub decreases-loop-i : goal.decreases-loop-i
decreases-loop-i l = l.k
