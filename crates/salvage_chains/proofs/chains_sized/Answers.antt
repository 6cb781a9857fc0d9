-- `salvage_chains::chains_sized` meets its contract.
use Rattle.salvage_chains.proofs.Outs.{out_done}
use Rattle.salvage_chains.proofs.chains_sized.Goals as goal

pub returns : goal.returns
returns c = out_done _ _ _ _ _ _ _ c.has_room.ensures c.if-ends-firsts.false c.if-not-has_room.false _ _ _ _ _ c.write_all-count.ensures c.clear-2.ensures
