-- `salvage::missed` meets its contract.
use Rattle.salvage.proofs.Walks.{missed_none, missed_some}
use Rattle.salvage.proofs.missed.Goals as goal

pub returns-then-p-eq0 : goal.returns-then-p-eq0
returns-then-p-eq0 c = search missed_none

pub returns : goal.returns
returns c = search missed_some
