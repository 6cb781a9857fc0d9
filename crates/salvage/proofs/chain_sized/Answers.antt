-- `salvage::chain_sized` meets its contract.
use Rattle.salvage.proofs.Outs.{out_done}
use Rattle.salvage.proofs.chain_sized.Goals as goal

pub returns : goal.returns
returns c = search (out_done)
