use Rattle.fat_walk.proofs.Walks.{Onward}
use Rattle.fat_walk.proofs.seek_on.Given as goal

abbrev pub invariant-loop-i : goal.invariant-loop-i
invariant-loop-i l = Onward l.n l.table l.next l.last l.count l.i l.passed l.k

abbrev pub decreases-loop-i : goal.decreases-loop-i
decreases-loop-i l = l.k
