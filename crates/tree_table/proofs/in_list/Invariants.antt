use mathlib.Core.Path.{◌≡◌}
use lib.ListN.{length}
use Rattle.tree_table.specs.Chain.{list_at, Ends, member}
use Rattle.tree_table.proofs.in_list.Given as goal

abbrev pub invariant-loop-x : goal.invariant-loop-x
invariant-loop-x l = Ends l.table l.w l.at l.x × (member l.y (list_at l.table l.w l.at l.x) ≡ member l.y (list_at l.table l.w l.at l.first))

abbrev pub decreases-loop-x : goal.decreases-loop-x
decreases-loop-x l = length (list_at l.table l.w l.at l.x)
