-- `check_parents` meets its contract.
use mathlib.Core.Path.{◌≡◌, refl, ap, ◌∙◌, subst}
use Prim.Native.Nat.{ℕ, ◌+◌, ◌*◌, ◌≤◌}
use native.Mathlib.Omega.{arith}
use borrow.Author.Rules.{rules}
use lib.ListN.{length}
use Rattle.tree_table.specs.Chain.{link_at}
use Rattle.order.specs.Tells.{Tells}
use Rattle.tree_marks.specs.Inner.Marks.{mark_at}
use Rattle.tree_marks.specs.Inner.Gather.{ParentMarked}
use Rattle.tree_marks.proofs.Walks.{entry_in}
use Rattle.tree_marks.proofs.Gathering.{check_begin, check_on, check_stop, check_done}
use mathlib.Core.Bool.{Bool}
use Rattle.tree_marks.proofs.check_parents.Goals as goal

-- what is told of the entry, by its number
told : (root y mark parent i : ℕ) (r : Bool) (W P : ℕ → ℕ) → i ≡ y → mark ≡ W i → parent ≡ P i → Tells (ParentMarked root y mark parent) r → Tells (ParentMarked root y (W y) (P y)) r
told root y mark parent i r W P e em ep T =
    let a : mark ≡ W y = em ∙ ap W e in
    let b : parent ≡ P y = ep ∙ ap P e in
    subst (λ m. Tells (ParentMarked root y m (P y)) r) a (subst (λ p. Tells (ParentMarked root y mark p) r) b T)

pub loop-y-init : goal.loop-y-init
loop-y-init c = check_begin _

pub overflow_mul-i : goal.overflow_mul-i
overflow_mul-i c = let h : c.index-i.result * c.args.w + c.args.w ≤ length c.args.table.now = entry_in _ _ c.args.count _ (omega arith) (omega arith) in omega arith

pub overflow_add-i : goal.overflow_add-i
overflow_add-i c = let h : c.index-i.result * c.args.w + c.args.w ≤ length c.args.table.now = entry_in _ _ c.args.count _ (omega arith) (omega arith) in omega arith

pub get_u32-requires : goal.get_u32-requires
get_u32-requires c = let h : c.index-i.result * c.args.w + c.args.w ≤ length c.args.table.now = entry_in _ _ c.args.count _ (omega arith) (omega arith) in omega arith

pub returns-then-not-named : goal.returns-then-not-named
returns-then-not-named c =
    check_stop {P = λ z. ParentMarked c.args.root z (mark_at c.args.work.now c.args.off z) (link_at c.args.table.now c.args.w 0 z)} c.loop-y.invariant (search rules)
    (told _ _ _ _ _ _ (mark_at c.args.work.now c.args.off) (link_at c.args.table.now c.args.w 0) c.index-i.ensures refl c.get_u32.ensures c.named.ensures) (search rules)

pub loop-y-preserved : goal.loop-y-preserved
loop-y-preserved c =
    check_on {P = λ z. ParentMarked c.args.root z (mark_at c.args.work.now c.args.off z) (link_at c.args.table.now c.args.w 0 z)} c.loop-y.invariant
    (told _ _ _ _ _ _ (mark_at c.args.work.now c.args.off) (link_at c.args.table.now c.args.w 0) c.index-i.ensures refl c.get_u32.ensures c.named.ensures) (search rules)

pub returns : goal.returns
returns c = check_done {P = λ z. ParentMarked c.args.root z (mark_at c.args.work.now c.args.off z) (link_at c.args.table.now c.args.w 0 z)} c.loop-y.invariant (search rules)
