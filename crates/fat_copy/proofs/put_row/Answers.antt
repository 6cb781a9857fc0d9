use Rattle.fat_copy.proofs.Puts.{put_turn}
use native.Mathlib.Omega.{arith}
use Prim.Native.Nat.{◌+◌, ◌-◌}
use Rattle.fat_copy.proofs.put_row.Goals as goal

pub loop-i-preserved : goal.loop-i-preserved
loop-i-preserved c =
    put_turn _ _ _ _ _ c.min-share.result c.loop-i.invariant c.requires.1 (omega (arith, c.min-share.ensures, c.loop-i-test.true)) _
    (c.args.at + c.loop-i.i + c.min-share.result - (c.args.at + c.loop-i.i)) (c.loop-i.i + c.min-share.result - c.loop-i.i) (omega arith) (omega arith) c.copy.ensures
