use native.Mathlib.Omega.{arith}
use Rattle.fat_retrace.proofs.Parts.{room_make, room_join, free_from, room_give, all_written}
use borrow.Author.Rules.{rules}
use Rattle.fat_retrace.proofs.retrace_sound.Goals as goal

pub make_nodes-made-requires : goal.make_nodes-made-requires
make_nodes-made-requires c = record { volume = search rules; table_in_bounds = room_make _ _ c.requires.volume (record { byte = λ k. omega (arith, c.type_inv.table k) }) c.args.list.now c.requires.n_in_bounds }

pub join_files-joined-requires : goal.join_files-joined-requires
join_files-joined-requires c = record { volume = search rules; table_in_bounds = room_join _ _ c.requires.volume (record { byte = λ k. omega (arith, c.type_inv.table k) }) c.args.list.now c.requires.n_in_bounds _ _ c.make_nodes-made.ensures }

pub give_up-given-requires : goal.give_up-given-requires
give_up-given-requires c = record { chain_from = free_from _ _ c.requires.volume (record { byte = λ k. omega (arith, c.type_inv.table k) }) c.args.list.now c.requires.n_in_bounds _ _ c.make_nodes-made.ensures _ _ c.join_files-joined.ensures _ c.head_of-head.ensures; first_in_bounds = room_give _ _ c.requires.volume (record { byte = λ k. omega (arith, c.type_inv.table k) }) c.args.list.now c.requires.n_in_bounds _ _ c.make_nodes-made.ensures _ _ c.join_files-joined.ensures _ c.head_of-head.ensures }

pub returns : goal.returns
returns c =
    all_written _ _ c.requires.volume (record { byte = λ k. omega (arith, c.type_inv.table k) }) c.args.list.now c.requires.n_in_bounds _ _ c.make_nodes-made.ensures _ _ c.join_files-joined.ensures _ c.head_of-head.ensures _ _ _ c.give_up-given.ensures
