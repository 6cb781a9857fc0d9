-- `salvage_chains::sum_all` meets its contract.
use Rattle.salvage_chains.proofs.Loops.{Summing}
use Rattle.salvage_chains.proofs.sum_all.Given as goal

abbrev pub invariant-loop-i : goal.invariant-loop-i
invariant-loop-i l = Summing l.n l.table l.firsts l.work l.at l.i
