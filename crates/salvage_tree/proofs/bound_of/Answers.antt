-- `salvage_tree::bound_of` meets its contract.
use Rattle.salvage_tree.proofs.Outs.{bound_is}
use Rattle.salvage_tree.proofs.bound_of.Goals as goal

pub returns : goal.returns
returns c = rw c.min.ensures (bound_is _ _ _ _ c.link_of-count.ensures c.requires.room.0)
