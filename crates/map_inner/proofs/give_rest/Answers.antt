use native.Mathlib.Omega.{arith}
use mathlib.Core.Path.{refl}
use Rattle.fat_walk.proofs.Found.{are_bytes}
use Rattle.map_inner.proofs.Moves.{cut_standing, cut_room, cut_fits, cut_turnable, cut_goes, cut_done}
use borrow.Author.Rules.{rules}
use Rattle.map_inner.proofs.give_rest.Goals as goal

pub size_at-size-requires : goal.size_at-size-requires
size_at-size-requires c = cut_standing _ _ c.requires.volume (are_bytes _ c.type_inv.table) _ _ _ c.requires.cut_at refl _ c.requires.map_value

pub next_of-next-requires : goal.next_of-next-requires
next_of-next-requires c = cut_room _ _ c.requires.volume (are_bytes _ c.type_inv.table) _ _ _ c.requires.cut_at c.size_at-size.ensures _ c.requires.map_value

pub overflow_add-b : goal.overflow_add-b
overflow_add-b c = omega (arith, (cut_fits _ _ c.requires.volume (are_bytes _ c.type_inv.table) _ _ _ c.requires.cut_at c.size_at-size.ensures _ c.requires.map_value).0)

pub overflow_add-b-2 : goal.overflow_add-b-2
overflow_add-b-2 c = omega (arith, (cut_fits _ _ c.requires.volume (are_bytes _ c.type_inv.table) _ _ _ c.requires.cut_at c.size_at-size.ensures _ c.requires.map_value).1)

pub turn-requires : goal.turn-requires
turn-requires c = cut_turnable _ _ c.requires.volume (are_bytes _ c.type_inv.table) _ _ _ c.requires.cut_at c.size_at-size.ensures _ c.requires.map_value

pub turn_chain-requires : goal.turn_chain-requires
turn_chain-requires c = cut_goes _ _ c.requires.volume (are_bytes _ c.type_inv.table) _ _ _ c.requires.cut_at c.size_at-size.ensures _ c.requires.map_value _ (search rules) c.turn.ensures _ c.next_of-next.ensures

pub returns : goal.returns
returns c = cut_done _ _ c.requires.volume (are_bytes _ c.type_inv.table) _ _ _ c.requires.cut_at c.size_at-size.ensures _ c.requires.map_value _ (search rules) c.turn.ensures _ c.next_of-next.ensures _ c.turn_chain.ensures
