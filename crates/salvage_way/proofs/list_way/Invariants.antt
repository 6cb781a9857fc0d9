-- `salvage_way::list_way` meets its contract.
use Rattle.salvage_way.proofs.Climbs.{Listing}
use Rattle.salvage_way.proofs.list_way.Given as goal

abbrev pub invariant-loop-place : goal.invariant-loop-place
invariant-loop-place l = Listing l.table l.inode l.x l.place-index l.place-items
