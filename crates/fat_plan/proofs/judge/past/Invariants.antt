use Prim.Native.Nat.{◌-◌}
use Rattle.fat_plan.proofs.Reading.{Reads}
use Rattle.fat_plan.proofs.judge.past.Given as goal

abbrev pub invariant-loop-end : goal.invariant-loop-end
invariant-loop-end l = Reads l.n l.table l.work l.from l.end

abbrev pub decreases-loop-end : goal.decreases-loop-end
decreases-loop-end l = l.n - l.end
