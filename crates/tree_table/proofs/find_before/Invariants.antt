use mathlib.Core.Path.{◌≡◌}
use lib.ListN.{length}
use Rattle.links.specs.Links.{◌∈◌}
use Rattle.links.specs.Change.{before}
use Rattle.tree_table.specs.Chain.{list_at, Ends}
use Rattle.tree_table.proofs.find_before.Given as goal

abbrev pub invariant-loop-x : goal.invariant-loop-x
invariant-loop-x l = Ends l.table l.w l.at l.x × (l.y ∈ list_at l.table l.w l.at l.x) × (before l.y l.p (list_at l.table l.w l.at l.x) ≡ before l.y 0 (list_at l.table l.w l.at l.first))

abbrev pub decreases-loop-x : goal.decreases-loop-x
decreases-loop-x l = length (list_at l.table l.w l.at l.x)
