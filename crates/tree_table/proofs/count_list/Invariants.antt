use mathlib.Core.Path.{◌≡◌}
use Prim.Native.Nat.{◌+◌}
use lib.ListN.{length}
use Rattle.tree_table.specs.Chain.{list_at, Ends}
use Rattle.tree_table.proofs.count_list.Given as goal

abbrev pub invariant-loop-x : goal.invariant-loop-x
invariant-loop-x l = Ends l.table l.w l.at l.x × (l.n + length (list_at l.table l.w l.at l.x) ≡ length (list_at l.table l.w l.at l.first))

abbrev pub decreases-loop-x : goal.decreases-loop-x
decreases-loop-x l = length (list_at l.table l.w l.at l.x)
