use Prim.Native.Nat.{◌+◌, ◌-◌}
use native.Mathlib.Omega.{arith}
use Rattle.fat_listed.proofs.Shares.{turned_end, turn_below, turn_fits, turn_upto, turn_data, turn_row, turn_next, read_end, read_turn, read_long}
use Rattle.fat_listed.proofs.fetch.Goals as goal

pub share_of-s-requires : goal.share_of-s-requires
share_of-s-requires c =
    (omega (arith, turn_below _ _ _ _ _ c.requires.fact.0.some c.touched-blocks.ensures _ c.requires.domestic _ _ _ c.loop-b-test.true c.loop-b.invariant.0, c.requires.fact.1), c.requires.fact.0.few, turn_fits _ _ _ _ _ c.requires.fact.0.some c.touched-blocks.ensures _ c.requires.domestic _ _ _ c.loop-b-test.true c.loop-b.invariant.0)

pub slice_bounds-copy-end-in-loop-b : goal.slice_bounds-copy-end-in-loop-b
slice_bounds-copy-end-in-loop-b c = omega (arith, turn_data _ _ _ _ _ c.requires.fact.0.some c.touched-blocks.ensures _ c.requires.domestic _ _ _ c.loop-b-test.true c.loop-b.invariant.0 _ _ c.share_of-s.ensures, c.requires.fact.0.fits)

pub loop-b-preserved : goal.loop-b-preserved
loop-b-preserved c = (
  turn_next _ _ _ _ _ c.requires.fact.0.some c.touched-blocks.ensures _ c.requires.domestic _ _ _ c.loop-b-test.true c.loop-b.invariant.0 _ _ c.share_of-s.ensures,
  read_turn _ _ _ _ _ _ (turn_row _ _ _ _ _ c.requires.fact.0.some c.touched-blocks.ensures _ c.requires.domestic _ _ _ c.loop-b-test.true c.loop-b.invariant.0 _ _ c.share_of-s.ensures) _ _ _ _ (c.loop-b.done + c.share_of-s.result.len - c.loop-b.done) (c.share_of-s.result.at + c.share_of-s.result.len - c.share_of-s.result.at) (turn_upto _ _ _ _ _ c.requires.fact.0.some c.touched-blocks.ensures _ c.requires.domestic _ _ _ c.loop-b-test.true c.loop-b.invariant.0 _ _ c.share_of-s.ensures) (omega (arith, turn_data _ _ _ _ _ c.requires.fact.0.some c.touched-blocks.ensures _ c.requires.domestic _ _ _ c.loop-b-test.true c.loop-b.invariant.0 _ _ c.share_of-s.ensures, c.requires.fact.0.fits)) c.loop-b.invariant.1 (omega arith) (omega arith) c.copy.ensures,
  read_long _ _ _ _ _ _ (turn_row _ _ _ _ _ c.requires.fact.0.some c.touched-blocks.ensures _ c.requires.domestic _ _ _ c.loop-b-test.true c.loop-b.invariant.0 _ _ c.share_of-s.ensures) _ _ _ _ (c.loop-b.done + c.share_of-s.result.len - c.loop-b.done) (c.share_of-s.result.at + c.share_of-s.result.len - c.share_of-s.result.at) (turn_upto _ _ _ _ _ c.requires.fact.0.some c.touched-blocks.ensures _ c.requires.domestic _ _ _ c.loop-b-test.true c.loop-b.invariant.0 _ _ c.share_of-s.ensures) (omega (arith, turn_data _ _ _ _ _ c.requires.fact.0.some c.touched-blocks.ensures _ c.requires.domestic _ _ _ c.loop-b-test.true c.loop-b.invariant.0 _ _ c.share_of-s.ensures, c.requires.fact.0.fits)) c.loop-b.invariant.1 (omega arith) (omega arith) c.copy.ensures,
)

pub returns : goal.returns
returns c = read_end _ _ _ _ _ _ _ c.loop-b.invariant.1 (turned_end _ _ _ _ _ c.requires.fact.0.some c.touched-blocks.ensures _ _ _ c.loop-b-test.false c.loop-b.invariant.0)
