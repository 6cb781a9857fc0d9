-- `salvage_chains::write_all` meets its contract.
use Rattle.salvage_chains.proofs.Loops.{Writing}
use Rattle.salvage_chains.proofs.write_all.Given as goal

abbrev pub invariant-loop-i : goal.invariant-loop-i
invariant-loop-i l = Writing l.n l.table l.firsts l.initial.ends l.initial.list l.work l.ends l.list l.at l.i
