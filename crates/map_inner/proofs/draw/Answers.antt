use Rattle.fat_walk.proofs.Found.{are_bytes}
use Rattle.map_inner.proofs.Moves.{draw_goes, draw_done}
use Rattle.map_inner.proofs.draw.Goals as goal

pub turn_chain-requires : goal.turn_chain-requires
turn_chain-requires c = draw_goes _ _ c.requires.volume (are_bytes _ c.type_inv.table) _ c.head_of-head.ensures _ c.requires.map_value

pub returns : goal.returns
returns c = draw_done _ _ c.requires.volume (are_bytes _ c.type_inv.table) _ c.head_of-head.ensures _ c.requires.map_value _ c.turn_chain.ensures
