-- `fat_ends::tile` meets its contract.
use Rattle.fat_ends.proofs.Ends.{Laid}
use Rattle.fat_ends.specs.Inner.Ends.{Backs}
use Rattle.fat_table.specs.Sound.{Counted, File}
use Prim.Native.Nat.{◌-◌, ◌≤◌}
use Rattle.fat_ends.proofs.tile.Given as goal

abbrev pub invariant-loop-b : goal.invariant-loop-b
invariant-loop-b l = Laid l.table l.n l.work l.b × Backs l.table l.n l.b l.backs × Counted (File l.table l.n) l.b l.files × (l.files ≤ l.b) × (l.backs ≤ l.b)

abbrev pub decreases-loop-b : goal.decreases-loop-b
decreases-loop-b l = l.n - l.b
