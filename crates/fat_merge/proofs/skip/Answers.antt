use native.Mathlib.Omega.{arith}
use Rattle.fat_merge.proofs.Loops.{skip_begin, skip_here, skip_next, skip_met, skip_end}
use Rattle.fat_merge.proofs.skip.Goals as goal

pub loop-b-init : goal.loop-b-init
loop-b-init c = skip_begin _ _ _ _

pub returns-then-work-b-ne0 : goal.returns-then-work-b-ne0
returns-then-work-b-ne0 c = search skip_met

pub size_at-b-requires : goal.size_at-b-requires
size_at-b-requires c = search skip_here

pub overflow_add-b : goal.overflow_add-b
overflow_add-b c = omega arith

pub loop-b-smaller : goal.loop-b-smaller
loop-b-smaller c = omega arith

pub loop-b-preserved : goal.loop-b-preserved
loop-b-preserved c = search skip_next

pub returns : goal.returns
returns c = search skip_end
