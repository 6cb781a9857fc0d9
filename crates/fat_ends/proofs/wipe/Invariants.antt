-- `fat_ends::wipe` meets its contract.
use mathlib.Core.Path.{◌≡◌}
use Prim.Native.Nat.{◌-◌, ◌≤◌}
use lib.ListN.{length}
use Rattle.fat_table.specs.Sound.{Starts}
use Rattle.fat_ends.specs.Inner.Ends.{AtNodes}
use Rattle.fat_ends.proofs.Wipes.{ZeroTo}
use Rattle.fat_ends.proofs.wipe.Given as goal

abbrev pub invariant-loop-b : goal.invariant-loop-b
invariant-loop-b l = (l.b ≤ l.n) × Starts l.table l.n l.b × (length l.work ≡ l.n) × ZeroTo l.work l.b × AtNodes l.table l.n l.work

abbrev pub decreases-loop-b : goal.decreases-loop-b
decreases-loop-b l = l.n - l.b
