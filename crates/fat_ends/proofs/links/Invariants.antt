-- `fat_ends::links` meets its contract.
use Prim.Native.Nat.{◌-◌, ◌≤◌}
use Rattle.fat_table.specs.Sound.{Starts}
use Rattle.fat_ends.specs.Inner.Ends.{State}
use Rattle.fat_ends.proofs.links.Given as goal

abbrev pub invariant-loop-b : goal.invariant-loop-b
invariant-loop-b l =
    (l.b ≤ l.n) × Starts l.table l.n l.b × State l.table l.n l.b l.work l.joins × (l.joins ≤ l.b)

abbrev pub decreases-loop-b : goal.decreases-loop-b
decreases-loop-b l =
    l.n - l.b
