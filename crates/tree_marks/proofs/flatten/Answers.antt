-- `flatten` meets its contract.
use mathlib.Core.Path.{◌≡◌, refl, sym, ap, ◌∙◌}
use Prim.Native.Nat.{◌≤◌, ◌<◌}
use native.Mathlib.Omega.{arith}
use borrow.Author.Rules.{rules}
use lib.ListN.{length, get_or, length-set}
use Rattle.tree_marks.proofs.Climbing.{flat_begin, flat_on, flat_end, flat_low, flat_next, left_set}
use Rattle.tree_marks.proofs.flatten.Goals as goal

pub loop-p-init : goal.loop-p-init
loop-p-init c = flat_begin _ _ (search rules) c.requires.3 c.index.ensures refl

pub offset_bounds-work-index-in-loop-p : goal.offset_bounds-work-index-in-loop-p
offset_bounds-work-index-in-loop-p c =
    let s : length c.loop-p.work ≡ length c.args.work.now = c.loop-p.invariant.within.size in
    let h : c.args.count ≤ length c.loop-p.work = omega arith in
    let a : c.loop-p.x < c.args.count = flat_low c.loop-p.invariant in
    let b : c.loop-p.p < c.args.count = flat_next c.loop-p.invariant (search rules) h in
    omega arith

pub bounds-work-index-in-loop-p : goal.bounds-work-index-in-loop-p
bounds-work-index-in-loop-p c =
    let s : length c.loop-p.work ≡ length c.args.work.now = c.loop-p.invariant.within.size in
    let h : c.args.count ≤ length c.loop-p.work = omega arith in
    let a : c.loop-p.x < c.args.count = flat_low c.loop-p.invariant in
    let b : c.loop-p.p < c.args.count = flat_next c.loop-p.invariant (search rules) h in
    omega arith

pub offset_bounds-work-index-in-loop-p-2 : goal.offset_bounds-work-index-in-loop-p-2
offset_bounds-work-index-in-loop-p-2 c =
    let s : length c.loop-p.work ≡ length c.args.work.now = c.loop-p.invariant.within.size in
    let h : c.args.count ≤ length c.loop-p.work = omega arith in
    let a : c.loop-p.x < c.args.count = flat_low c.loop-p.invariant in
    let b : c.loop-p.p < c.args.count = flat_next c.loop-p.invariant (search rules) h in
    omega arith

pub bounds-work-index-in-loop-p-2 : goal.bounds-work-index-in-loop-p-2
bounds-work-index-in-loop-p-2 c =
    let s : length c.loop-p.work ≡ length c.args.work.now = c.loop-p.invariant.within.size in
    let h : c.args.count ≤ length c.loop-p.work = omega arith in
    let a : c.loop-p.x < c.args.count = flat_low c.loop-p.invariant in
    let b : c.loop-p.p < c.args.count = flat_next c.loop-p.invariant (search rules) h in
    simp length-set (omega arith)

pub loop-p-smaller : goal.loop-p-smaller
loop-p-smaller c = left_set c.loop-p.work c.index-in-loop-p.result (λ e. c.loop-p-test.true (c.loop-p.invariant.here ∙ ap (λ z. get_or c.loop-p.work z 0) (sym c.index-in-loop-p.ensures) ∙ e))

pub loop-p-preserved : goal.loop-p-preserved
loop-p-preserved c =
    let s : length c.loop-p.work ≡ length c.args.work.now = c.loop-p.invariant.within.size in
    let h : c.args.count ≤ length c.loop-p.work = omega arith in
    let a : c.loop-p.x < c.args.count = flat_low c.loop-p.invariant in
    let b : c.loop-p.p < c.args.count = flat_next c.loop-p.invariant (search rules) h in
    flat_on c.loop-p.invariant (search rules) h _ _ _ c.index-in-loop-p.ensures c.index-in-loop-p-2.ensures refl

pub returns : goal.returns
returns c = flat_end c.loop-p.invariant (search rules)
