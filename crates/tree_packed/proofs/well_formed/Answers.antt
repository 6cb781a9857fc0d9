use mathlib.Core.Path.{sym, ◌∙◌, subst}
use mathlib.Core.List.{[]}
use Prim.Native.Nat.{ℕ, ◌+◌, ◌/◌, ◌≤◌, ◌<◌}
use native.Mathlib.Omega.{arith}
use lib.ListN.{length}
use lib.Seq.{length-take-le}
use Rattle.tree_packed.proofs.Walks.{Front, front_step, front_low, front_empty, pair_inode, pair_record, tells_no}
use Rattle.tree_packed.proofs.well_formed.Goals as goal
use Rattle.tree_packed.proofs.well_formed.Goals.{then-pair-last-via-then-pair-last, then-pair-last-via-else-pair-last+then-pair-eq0}

pub returns-then-pair-last : goal.returns-then-pair-last
returns-then-pair-last c =
    let h : c.args.k ≤ length c.args.list.now / 2 = omega arith in
    let t : c.loop-pair.pair-index < c.args.k = omega (arith, length-take-le c.args.k c.as_chunks.result.0.now (omega arith)) in
    let x = pair_inode c.args.list.now c.args.k c.as_chunks.ensures.front h c.loop-pair.pair-index [] t in
    let r = pair_record c.args.list.now c.args.k c.as_chunks.ensures.front h c.loop-pair.pair-index [] t in
    tells_no
    (elim c.then-pair-last.branch [
      | then-pair-last-via-then-pair-last w ↦ front_low c.loop-pair.invariant t (omega arith)
      | then-pair-last-via-else-pair-last+then-pair-eq0 w ↦ front_empty t (sym r ∙ w.if-pair-eq0.true)
    ])

pub loop-pair-preserved : goal.loop-pair-preserved
loop-pair-preserved c =
    let h : c.args.k ≤ length c.args.list.now / 2 = omega arith in
    let t : c.loop-pair.pair-index < c.args.k = omega (arith, length-take-le c.args.k c.as_chunks.result.0.now (omega arith)) in
    let x = pair_inode c.args.list.now c.args.k c.as_chunks.ensures.front h c.loop-pair.pair-index [] t in
    let r = pair_record c.args.list.now c.args.k c.as_chunks.ensures.front h c.loop-pair.pair-index [] t in
    subst (λ (z : ℕ). Front c.args.k c.args.list.now (c.loop-pair.pair-index + 1) z) (sym x)
    (front_step c.loop-pair.invariant t (omega arith) (λ e. c.if-pair-eq0.false (r ∙ e)))
