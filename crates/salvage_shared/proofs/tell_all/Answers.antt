-- `salvage_shared::tell_all` meets its contract.
use Rattle.salvage_shared.proofs.Loops.{telling_end}
use Rattle.salvage_shared.proofs.tell_all.Goals as goal

pub returns : goal.returns
returns c = search (telling_end)
