-- `all_marked` meets its contract.
use Prim.Native.Nat.{◌<◌}
use Rattle.tree_marks.specs.Inner.Marks.{mark_at}
use Rattle.tree_marks.proofs.Gathering.{Checking}
use Rattle.tree_alone.proofs.all_marked.Given as goal

abbrev pub invariant-loop-y : goal.invariant-loop-y
invariant-loop-y l = Checking (λ z. 0 < mark_at l.work l.off z) l.y
