use Rattle.fat_walk.proofs.Found.{are_bytes}
use Rattle.map_inner.proofs.Moves.{give_goes, give_done}
use Rattle.map_inner.proofs.give.Goals as goal

pub turn_chain-requires : goal.turn_chain-requires
turn_chain-requires c = give_goes _ _ c.requires.volume (are_bytes _ c.type_inv.table) _ c.requires.file _ c.requires.map_value

pub returns : goal.returns
returns c = give_done _ _ c.requires.volume (are_bytes _ c.type_inv.table) _ c.requires.file _ c.requires.map_value _ c.turn_chain.ensures
