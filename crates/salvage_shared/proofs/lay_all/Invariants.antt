-- `salvage_shared::lay_all` meets its contract.
use Rattle.salvage_shared.proofs.Loops.{Laying}
use Rattle.salvage_shared.proofs.lay_all.Given as goal

abbrev pub invariant-loop-i : goal.invariant-loop-i
invariant-loop-i l = Laying l.n l.table l.firsts l.list l.initial.work l.work l.i
