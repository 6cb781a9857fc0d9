use mathlib.Core.Path.{refl}
use native.Mathlib.Omega.{arith}
use Rattle.fat_copy.proofs.Copied.{copied_turn, copied_end}
use Rattle.fat_copy.proofs.copy.Goals as goal

pub loop-i-init : goal.loop-i-init
loop-i-init c = record { is = refl; within = omega arith; even = c.requires }

pub loop-i-preserved : goal.loop-i-preserved
loop-i-preserved c = copied_turn _ _ _ _ c.loop-i.invariant (omega arith)

pub returns : goal.returns
returns c = copied_end _ _ _ _ c.loop-i.invariant (omega arith)
