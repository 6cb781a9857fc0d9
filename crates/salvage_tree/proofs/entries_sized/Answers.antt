-- `salvage_tree::entries_sized` meets its contract.
use mathlib.Core.Path.{◌∙◌}
use native.Mathlib.Omega.{arith}
use Rattle.salvage_tree.proofs.Loops.{count_is}
use Rattle.salvage_tree.proofs.Outs.{none_marked, still_sized, out_short, out_done}
use Rattle.salvage_tree.proofs.entries_sized.Goals as goal

pub mark_gone-requires : goal.mark_gone-requires
mark_gone-requires c = record { sized = still_sized _ _ _ _ _ c.requires c.clear.ensures; marks = search (none_marked) }

pub returns-then-list-count : goal.returns-then-list-count
returns-then-list-count c =
    out_short _ _ _ _ _ _ _ _ c.requires c.clear.ensures c.mark_gone.auto.work c.mark_gone.ensures _
    (c.count_live-count.ensures ∙ count_is _ _ _ c.index.ensures (omega arith)) c.clear-then-list-count.ensures c.if-list-count.true

pub list_live-requires-clause-work_in_bounds : goal.list_live-requires-clause-work_in_bounds
list_live-requires-clause-work_in_bounds c = omega (arith, count_is _ _ c.mark_gone.new.work c.index.ensures (omega arith), c.count_live-count.ensures)

pub returns : goal.returns
returns c =
    out_done _ _ _ _ _ _ _ _ c.requires c.clear.ensures c.mark_gone.auto.work c.mark_gone.ensures _
    (c.count_live-count.ensures ∙ count_is _ _ _ c.index.ensures (omega arith)) c.clear-2.ensures c.if-list-count.false _ c.list_live.ensures
