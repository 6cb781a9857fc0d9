-- `salvage_chains::has_room` meets its contract.
use Rattle.salvage_chains.proofs.Outs.{room_always}
use Rattle.salvage_chains.proofs.has_room.Goals as goal

pub returns-then-n-room : goal.returns-then-n-room
returns-then-n-room c = room_always _ _ _ _ _ c.requires c.if-n-room.true
