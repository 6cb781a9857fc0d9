-- `salvage_shared::lay_all` meets its contract.
use Rattle.salvage_shared.proofs.Loops.{laying_on}
use Rattle.salvage_shared.proofs.lay_all.Goals as goal

pub loop-i-preserved : goal.loop-i-preserved
loop-i-preserved c = search (laying_on)
