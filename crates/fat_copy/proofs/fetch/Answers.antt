use Rattle.fat_copy.proofs.Carries.{read_end, read_turn, at_standing, at_fits, turn_some, turn_data}
use native.Mathlib.Omega.{arith}
use mathlib.Core.Path.{refl}
use Prim.Native.Nat.{◌+◌, ◌-◌}
use Rattle.fat_copy.proofs.fetch.Goals as goal

pub stretch_at-s-requires-clause-standing : goal.stretch_at-s-requires-clause-standing
stretch_at-s-requires-clause-standing c =
    at_standing _ _ _ _ _ _ _ c.requires.carries.at.stands ((c.loop-done.invariant _ _ c.requires.carries.at).at c.loop-done-test.true)

pub stretch_at-s-requires-clause-block_len_bound : goal.stretch_at-s-requires-clause-block_len_bound
stretch_at-s-requires-clause-block_len_bound c =
    (c.requires.fact.few, at_fits _ _ _ _ _ _ _ c.requires.carries.at.stands ((c.loop-done.invariant _ _ c.requires.carries.at).at c.loop-done-test.true))

pub overflow_add-s : goal.overflow_add-s
overflow_add-s c = omega (arith, turn_data c.requires.carries.at c.requires.fact.some c.loop-done-test.true (c.loop-done.invariant _ _ c.requires.carries.at).at c.stretch_at-s.ensures, c.requires.fact.fits)

pub slice_bounds-copy-end-in-loop-done : goal.slice_bounds-copy-end-in-loop-done
slice_bounds-copy-end-in-loop-done c = omega (arith, turn_data c.requires.carries.at c.requires.fact.some c.loop-done-test.true (c.loop-done.invariant _ _ c.requires.carries.at).at c.stretch_at-s.ensures, c.requires.fact.fits)

pub loop-done-smaller : goal.loop-done-smaller
loop-done-smaller c =
    omega (arith, turn_some c.requires.carries.at c.requires.fact.some c.loop-done-test.true (c.loop-done.invariant _ _ c.requires.carries.at).at c.stretch_at-s.ensures, c.loop-done-test.true)

pub loop-done-preserved : goal.loop-done-preserved
loop-done-preserved c = λ l p h.
    let r = c.loop-done.invariant l p h in
    read_turn h c.requires.fact.some c.loop-done-test.true r.at c.stretch_at-s.ensures _ _ _ _
    (c.loop-done.done + c.stretch_at-s.result.len - c.loop-done.done) (c.stretch_at-s.result.at + c.stretch_at-s.result.len - c.stretch_at-s.result.at)
    refl c.requires.fact.fits r (omega arith) (omega arith) c.copy.ensures

pub returns : goal.returns
returns c = λ l p h. read_end _ _ _ _ _ _ _ _ _ (c.loop-done.invariant _ _ h) (omega arith)
