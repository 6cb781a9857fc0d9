-- `mark_counted` meets its contract.
use Prim.Native.Nat.{◌+◌, ◌*◌, ◌≤◌}
use native.Mathlib.Omega.{arith}
use borrow.Author.Rules.{rules}
use lib.ListN.{length}
use Rattle.tree_marks.proofs.Walks.{zeros_set, counting_begin, counting_on, counting_past, counting_met, counting_end, entry_in}
use Rattle.tree_marks.proofs.mark_counted.Goals as goal

pub loop-x-init : goal.loop-x-init
loop-x-init c = counting_begin _ _ _ _ _ _

pub returns-then-x-count : goal.returns-then-x-count
returns-then-x-count c = search (counting_past)

pub returns-then-work-off-ne0 : goal.returns-then-work-off-ne0
returns-then-work-off-ne0 c = search (counting_met)

pub overflow_mul-i : goal.overflow_mul-i
overflow_mul-i c = let h : c.index-i.result * c.args.w + c.args.w ≤ length c.args.table.now = entry_in _ _ c.args.count _ (omega arith) (omega arith) in omega arith

pub overflow_add-i : goal.overflow_add-i
overflow_add-i c = let h : c.index-i.result * c.args.w + c.args.w ≤ length c.args.table.now = entry_in _ _ c.args.count _ (omega arith) (omega arith) in omega arith

pub get_u32-x-requires : goal.get_u32-x-requires
get_u32-x-requires c = let h : c.index-i.result * c.args.w + c.args.w ≤ length c.args.table.now = entry_in _ _ c.args.count _ (omega arith) (omega arith) in omega arith

pub loop-x-smaller : goal.loop-x-smaller
loop-x-smaller c = zeros_set c.loop-x.work (c.args.off + c.index-i.result) c.args.m (search rules) (search rules) (search rules)

pub loop-x-preserved : goal.loop-x-preserved
loop-x-preserved c = counting_on _ _ c.loop-x.invariant (search rules) (search rules) (search rules) (search rules) (search rules) c.index-i.ensures c.get_u32-x.ensures

pub returns : goal.returns
returns c = search (counting_end)
