-- `salvage::walk` meets its contract.
use mathlib.Core.Path.{refl}
use native.Mathlib.Omega.{arith}
use Rattle.salvage.proofs.Walks.{walk_begin, walk_whole, walk_clash, walk_fits, walk_on}
use Rattle.salvage.proofs.walk.Goals as goal

pub loop-i-init : goal.loop-i-init
loop-i-init c = walk_begin _ _ _ _ _ _ refl c.requires.below c.requires.n_bound.2

pub returns-then-not-take : goal.returns-then-not-take
returns-then-not-take c =
    walk_clash _ _ _ _ _ _ _ _ c.loop-i.invariant _ (omega arith) _ _ c.in-Ok.ensures c.requires.n_bound.0 _ _ c.take.ensures c.take.auto.work c.if-not-take.true

pub overflow_add-count : goal.overflow_add-count
overflow_add-count c =
    let z = walk_fits _ _ _ _ _ _ _ _ c.loop-i.invariant _ (omega arith) _ _ c.in-Ok.ensures _ (c.take.ensures.yes c.if-not-take.false) in
    omega (arith, z.0, c.requires.n_bound.0)

pub loop-i-smaller : goal.loop-i-smaller
loop-i-smaller c =
    let z = walk_fits _ _ _ _ _ _ _ _ c.loop-i.invariant _ (omega arith) _ _ c.in-Ok.ensures _ (c.take.ensures.yes c.if-not-take.false) in
    omega (arith, z.0, z.1)

pub loop-i-preserved : goal.loop-i-preserved
loop-i-preserved c =
    walk_on _ _ _ _ _ _ _ _ c.loop-i.invariant _ (omega arith) _ _ c.in-Ok.ensures _ (c.take.ensures.yes c.if-not-take.false) c.requires.n_bound.0 c.take.auto.work

pub returns : goal.returns
returns c = walk_whole _ _ _ _ _ _ _ _ c.loop-i.invariant c.loop-i-test.false
