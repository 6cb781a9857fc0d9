use borrow.Author.Rules.{rules}
use Rattle.fat_merge.proofs.Promised.{merge_refused, merge_volume, merge_fits, merge_long, merge_lent, merge_done_lem}
use Rattle.fat_merge.proofs.merge.Goals as goal

pub slice_bounds-merge_sound-end : goal.slice_bounds-merge_sound-end
slice_bounds-merge_sound-end c = merge_fits c.args.table.now _ _ _ _ _ c.in_ok-table_gate.ensures _ c.blocks-n.ensures

pub slice_bounds-merge_sound-end-2 : goal.slice_bounds-merge_sound-end-2
slice_bounds-merge_sound-end-2 c = merge_long c.args.table.now _ _ _ _ _ c.in_ok-table_gate.ensures _ c.blocks-n.ensures

pub merge_sound-requires : goal.merge_sound-requires
merge_sound-requires c = record {
  volume = merge_volume c.args.table.now _ _ _ _ _ c.in_ok-table_gate.ensures _ c.blocks-n.ensures;
  work_value = merge_lent c.args.table.now _ _ _ _ _ c.in_ok-table_gate.ensures _ c.blocks-n.ensures;
}

pub returns-in_err-table_gate : goal.returns-in_err-table_gate
returns-in_err-table_gate c = search (rules, merge_refused)

pub returns : goal.returns
returns c =
    merge_done_lem c.args.table.now _ _ _ _ _ c.in_ok-table_gate.ensures _ c.blocks-n.ensures _ _ c.merge_sound.ensures.0 c.merge_sound.ensures.1
