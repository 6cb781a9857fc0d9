-- `salvage_chains::follow_one` meets its contract.
use Rattle.salvage_chains.proofs.Loops.{one_crowded, one_out, one_walked}
use Rattle.salvage_chains.proofs.follow_one.Goals as goal

pub returns-then-n-spent : goal.returns-then-n-spent
returns-then-n-spent c = search (one_crowded)

pub returns-then-n-b : goal.returns-then-n-b
returns-then-n-b c = search (one_out)

pub returns : goal.returns
returns c = search (one_walked)
