-- `salvage_tree::count_live` meets its contract.
use native.Mathlib.Omega.{arith}
use Rattle.salvage_tree.proofs.Loops.{counted_hit, counted_skip, counted_end}
use Rattle.salvage_tree.proofs.count_live.Goals as goal
use Rattle.salvage_tree.proofs.count_live.Goals.{then-marks-x-eq0, else-marks-x-eq0}

pub loop-x-init : goal.loop-x-init
loop-x-init c = record { sum = omega arith; few = omega arith }

pub loop-x-preserved : goal.loop-x-preserved
loop-x-preserved c = elim c.if-marks-x-eq0.branch [ then-marks-x-eq0 w ↦ counted_hit c.loop-x.invariant w.count-is (omega arith) w.if-marks-x-eq0.true | else-marks-x-eq0 w ↦ counted_skip c.loop-x.invariant w.count-is (omega arith) w.if-marks-x-eq0.false ]

pub returns : goal.returns
returns c = counted_end c.loop-x.invariant (omega arith)
