-- `salvage_chains::sum_all` meets its contract.
use Rattle.salvage_chains.proofs.Loops.{summing_begin}
use Rattle.salvage_chains.proofs.sum_all.Goals as goal

pub loop-i-init : goal.loop-i-init
loop-i-init c = search (summing_begin)
