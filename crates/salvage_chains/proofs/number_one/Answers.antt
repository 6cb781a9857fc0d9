-- `salvage_chains::number_one` meets its contract.
use Rattle.salvage_chains.proofs.Loops.{number_none, number_may, number_done}
use Rattle.salvage_chains.proofs.number_one.Goals as goal

pub number_chain-requires-clause-n_bound : goal.number_chain-requires-clause-n_bound
number_chain-requires-clause-n_bound c = (number_may _ _ _ _ _ _ _ c.requires c.if-count-ne0.true).0

pub number_chain-requires-clause-count_value : goal.number_chain-requires-clause-count_value
number_chain-requires-clause-count_value c = (number_may _ _ _ _ _ _ _ c.requires c.if-count-ne0.true).1

pub returns-then-count-ne0 : goal.returns-then-count-ne0
returns-then-count-ne0 c = search (number_done)

pub returns-else-count-ne0 : goal.returns-else-count-ne0
returns-else-count-ne0 c = search (number_none)
