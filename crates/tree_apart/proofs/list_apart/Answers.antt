-- `list_apart` meets its contract.
use mathlib.Core.Path.{sym, ◌∙◌}
use Prim.Native.Nat.{◌-◌}
use lib.ListN.{length, drop}
use Rattle.tree_table.specs.Chain.{list_at}
use lib.Seq.{length-take-le}
use Rattle.tree_apart.proofs.Differing.{held_inside, held_tells, held_fits}
use Rattle.tree_apart.proofs.list_apart.Goals as goal

pub slice_bounds-distinct_keys-end-2 : goal.slice_bounds-distinct_keys-end-2
slice_bounds-distinct_keys-end-2 c = sym (length-take-le _ _ (held_fits c.args.table.now c.args.w c.args.first (drop (length (list_at c.args.table.now c.args.w (c.args.w - 4) c.args.first)) c.args.room.now) c.write_list.ensures (c.index-n.ensures ∙ c.count_list-c.ensures) c.requires.0))

pub distinct_keys-requires : goal.distinct_keys-requires
distinct_keys-requires c = held_inside c.args.table.now c.args.w c.args.first (drop (length (list_at c.args.table.now c.args.w (c.args.w - 4) c.args.first)) c.args.room.now) c.write_list.ensures (c.index-n.ensures ∙ c.count_list-c.ensures) c.requires.0 c.requires.1

pub returns : goal.returns
returns c = held_tells c.args.table.now c.args.w c.args.first (drop (length (list_at c.args.table.now c.args.w (c.args.w - 4) c.args.first)) c.args.room.now) c.write_list.ensures (c.index-n.ensures ∙ c.count_list-c.ensures) c.requires.0 c.distinct_keys.ensures.0
