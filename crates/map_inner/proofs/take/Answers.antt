use native.Mathlib.Omega.{arith}
use Rattle.fat_walk.proofs.Found.{are_bytes}
use Rattle.map_inner.proofs.Moves.{take_next, take_end, take_goes, take_turnable, take_done}
use borrow.Author.Rules.{rules}
use Rattle.map_inner.proofs.take.Goals as goal

pub overflow_add-b : goal.overflow_add-b
overflow_add-b c = omega (arith, take_next _ _ c.requires.volume (are_bytes _ c.type_inv.table) _ _ _ c.head_of-head.ensures c.requires.take_at _ c.requires.map_value)

pub turn_chain-requires : goal.turn_chain-requires
turn_chain-requires c = take_goes _ _ c.requires.volume (are_bytes _ c.type_inv.table) _ _ _ c.head_of-head.ensures c.requires.take_at _ c.requires.map_value

pub overflow_add-b-2 : goal.overflow_add-b-2
overflow_add-b-2 c = omega (arith, take_end _ _ c.requires.volume (are_bytes _ c.type_inv.table) _ _ _ c.head_of-head.ensures c.requires.take_at _ c.requires.map_value)

pub turn-requires : goal.turn-requires
turn-requires c = take_turnable _ _ c.requires.volume (are_bytes _ c.type_inv.table) _ _ _ c.head_of-head.ensures c.requires.take_at _ c.requires.map_value _ (search rules) c.turn_chain.ensures

pub returns : goal.returns
returns c = take_done _ _ c.requires.volume (are_bytes _ c.type_inv.table) _ _ _ c.head_of-head.ensures c.requires.take_at _ c.requires.map_value _ (search rules) c.turn_chain.ensures _ c.turn.ensures
