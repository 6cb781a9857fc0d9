-- `climbs` meets its contract.
use Prim.Native.Nat.{◌-◌}
use Rattle.tree_marks.proofs.Climbing.{Climbed}
use Rattle.tree_marks.proofs.climbs.Given as goal

abbrev pub invariant-loop-x : goal.invariant-loop-x
invariant-loop-x l = Climbed l.count l.work l.y l.x l.steps

abbrev pub decreases-loop-x : goal.decreases-loop-x
decreases-loop-x l = l.count - l.steps
