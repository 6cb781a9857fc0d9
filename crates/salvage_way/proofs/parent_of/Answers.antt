-- `salvage_way::parent_of` meets its contract.
use Rattle.salvage_way.proofs.Climbs.{parent_root, parent_named}
use Rattle.salvage_way.proofs.parent_of.Goals as goal

pub returns-then-x-eq1 : goal.returns-then-x-eq1
returns-then-x-eq1 c = search (parent_root)

pub returns : goal.returns
returns c = search (parent_named)
