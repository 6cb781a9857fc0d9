-- `salvage_shared::judge_all` meets its contract.
use Rattle.salvage_shared.proofs.Loops.{Judging}
use Rattle.salvage_shared.proofs.judge_all.Given as goal

abbrev pub invariant-loop-i : goal.invariant-loop-i
invariant-loop-i l = Judging l.n l.table l.firsts l.initial.list l.work l.list l.spent l.i
