-- `salvage_shared::run_meets` meets its contract.
use Rattle.salvage_shared.proofs.Counted.{meets_run}
use Rattle.salvage_shared.proofs.run_meets.Goals as goal

pub returns : goal.returns
returns c = meets_run _ _ _ _ c.requires c.contains.ensures.value
