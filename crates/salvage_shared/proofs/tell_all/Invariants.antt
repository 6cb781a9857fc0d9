-- `salvage_shared::tell_all` meets its contract.
use Rattle.salvage_shared.proofs.Loops.{Telling}
use Rattle.salvage_shared.proofs.tell_all.Given as goal

abbrev pub invariant-loop-i : goal.invariant-loop-i
invariant-loop-i l = Telling l.n l.table l.work l.firsts l.initial.list l.list l.i
