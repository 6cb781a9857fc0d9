use Prim.Native.Nat.{◌-◌}
use native.Mathlib.Omega.{arith}
use Rattle.fat_plan.proofs.Reading.{read_begin, read_here, read_next, read_met, read_end}
use Rattle.fat_plan.proofs.judge.past.Goals as goal

pub loop-end-init : goal.loop-end-init
loop-end-init c = read_begin _ _ _ _

pub returns-then-work-end-eq0 : goal.returns-then-work-end-eq0
returns-then-work-end-eq0 c = search read_met

pub size_at-end-requires : goal.size_at-end-requires
size_at-end-requires c = search read_here

pub overflow_add-end : goal.overflow_add-end
overflow_add-end c = omega arith

pub loop-end-smaller : goal.loop-end-smaller
loop-end-smaller c = omega arith

pub loop-end-preserved : goal.loop-end-preserved
loop-end-preserved c = search read_next

pub returns : goal.returns
returns c = search read_end
