use native.Mathlib.Omega.{arith}
use Rattle.fat_merge.proofs.Loops.{pass_begin, pass_here, pass_next, pass_met, pass_end}
use Rattle.fat_merge.proofs.past.Goals as goal

pub loop-end-init : goal.loop-end-init
loop-end-init c = pass_begin _ _ _ _

pub bounds-work-end : goal.bounds-work-end
bounds-work-end c = omega arith

pub returns-then-work-end-eq0 : goal.returns-then-work-end-eq0
returns-then-work-end-eq0 c = search pass_met

pub bounds-work-end-in-loop-end : goal.bounds-work-end-in-loop-end
bounds-work-end-in-loop-end c = omega arith

pub size_at-end-requires : goal.size_at-end-requires
size_at-end-requires c = search pass_here

pub overflow_add-end : goal.overflow_add-end
overflow_add-end c = omega arith

pub loop-end-smaller : goal.loop-end-smaller
loop-end-smaller c = omega arith

pub loop-end-preserved : goal.loop-end-preserved
loop-end-preserved c = search pass_next

pub returns : goal.returns
returns c = search pass_end
