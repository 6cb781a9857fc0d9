-- `sort_table` meets its contract.
use mathlib.Core.Path.{refl}
use native.Mathlib.Omega.{arith}
use Rattle.tree_marks.proofs.Walks.{entry_in}
use Rattle.tree_alone.proofs.Sorting.{sort_1, sort_2, sort_3, sort_4}
use borrow.Author.Rules.{rules}
use Rattle.tree_alone.proofs.sort_table.Goals as goal

pub link_of-first-requires : goal.link_of-first-requires
link_of-first-requires c = (entry_in _ _ c.args.count _ (omega arith) (omega arith), omega arith)

pub returns-then-not-mark_list : goal.returns-then-not-mark_list
returns-then-not-mark_list c =
    sort_1 c.args.hash.now c.args.table.now c.args.w c.args.off c.requires.0 c.link_of-first.ensures c.requires.8 c.mark_list.ensures (search rules)

pub returns-in_err-longest : goal.returns-in_err-longest
returns-in_err-longest c =
    rw c.from_residual.ensures
    (sort_2 c.args.hash.now c.args.table.now c.args.w c.args.off c.requires.0 c.link_of-first.ensures c.requires.8 c.mark_list.ensures (search rules) (search rules) (search rules) c.in_err-longest.ensures (search rules) refl)

pub returns-then-not-all_marked : goal.returns-then-not-all_marked
returns-then-not-all_marked c =
    sort_3 c.args.hash.now c.args.table.now c.args.w c.args.off c.requires.0 c.link_of-first.ensures c.requires.8 c.mark_list.ensures (search rules) (search rules) (search rules) c.in_ok-longest.ensures (search rules)
    refl (search rules) (search rules) (search rules) c.all_marked.ensures (search rules)

pub returns : goal.returns
returns c =
    sort_4 c.args.hash.now c.args.table.now c.args.w c.args.off c.requires.0 c.link_of-first.ensures c.requires.8 c.mark_list.ensures (search rules) (search rules) (search rules) c.in_ok-longest.ensures (search rules)
    refl (search rules) (search rules) (search rules) c.all_marked.ensures (search rules)
