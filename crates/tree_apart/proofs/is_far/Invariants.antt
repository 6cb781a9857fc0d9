-- `is_far` meets its contract.
use mathlib.Core.Path.{◌≡◌}
use Prim.Native.Nat.{◌+◌, ◌-◌, ◌≤◌}
use lib.ListN.{length}
use Rattle.tree_table.specs.Chain.{list_at, Ends}
use Rattle.tree_apart.specs.Inner.Apart.{few}
use Rattle.tree_apart.proofs.is_far.Given as goal

abbrev pub invariant-loop-x : goal.invariant-loop-x
invariant-loop-x l = Ends l.table l.w (l.w - 4) l.x × (l.n + length (list_at l.table l.w (l.w - 4) l.x) ≡ length (list_at l.table l.w (l.w - 4) l.first)) × (l.n ≤ few)

abbrev pub decreases-loop-x : goal.decreases-loop-x
decreases-loop-x l = length (list_at l.table l.w (l.w - 4) l.x)
