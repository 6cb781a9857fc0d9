use lib.ListN.{length}
use Rattle.fat_table.specs.Chain.{chain_at}
use Rattle.fat_place.proofs.Carving.{Carving}
use Rattle.fat_place.proofs.carve.Given as goal

abbrev pub invariant-loop-i : goal.invariant-loop-i
invariant-loop-i l = Carving l.n l.m l.end l.initial.table l.table l.i l.w.size l.w.start l.w.prev l.w.first

abbrev pub decreases-loop-i : goal.decreases-loop-i
decreases-loop-i l = length (chain_at l.table l.n l.i)
