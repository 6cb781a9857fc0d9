use Rattle.fat_copy.proofs.Carries.{write_turn, at_standing, at_fits, turn_some, turn_data}
use lib.ListN.{length-take, length-drop}
use mathlib.Core.Path.{refl}
use native.Mathlib.Omega.{arith}
use Prim.Native.Nat.{◌+◌, ◌-◌}
use Rattle.fat_copy.proofs.store.Goals as goal

pub stretch_at-s-requires-clause-standing : goal.stretch_at-s-requires-clause-standing
stretch_at-s-requires-clause-standing c =
    at_standing _ _ _ _ _ _ _ c.requires.carries.at.stands ((c.loop-done.invariant _ _ c.requires.carries.at).at c.loop-done-test.true)

pub stretch_at-s-requires-clause-block_len_bound : goal.stretch_at-s-requires-clause-block_len_bound
stretch_at-s-requires-clause-block_len_bound c =
    (c.requires.fact.few, at_fits _ _ _ _ _ _ _ c.requires.carries.at.stands ((c.loop-done.invariant _ _ c.requires.carries.at).at c.loop-done-test.true))

pub put_row-requires : goal.put_row-requires
put_row-requires c =
    let h = turn_data c.requires.carries.at c.requires.fact.some c.loop-done-test.true (c.loop-done.invariant _ _ c.requires.carries.at).at c.stretch_at-s.ensures in
    (c.requires.fact.some, simp (length-take, length-drop) (omega (arith, h, c.stretch_at-s.ensures.most, c.requires.fact.fits, c.loop-done.auto.data)))

pub loop-done-smaller : goal.loop-done-smaller
loop-done-smaller c =
    omega (arith, turn_some c.requires.carries.at c.requires.fact.some c.loop-done-test.true (c.loop-done.invariant _ _ c.requires.carries.at).at c.stretch_at-s.ensures, c.loop-done-test.true)

pub loop-done-preserved : goal.loop-done-preserved
loop-done-preserved c = λ l p h.
    let r = c.loop-done.invariant l p h in
    write_turn h c.requires.fact.some c.loop-done-test.true r.at c.stretch_at-s.ensures _ _ _ _ _
    (c.loop-done.done + c.stretch_at-s.result.len - c.loop-done.done) refl r (omega arith) refl c.put_row.ensures
