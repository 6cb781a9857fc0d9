use mathlib.Core.Path.{◌≡◌}
use Prim.Native.Nat.{◌+◌, ◌-◌, ◌≤◌}
use lib.ListN.{length}
use Rattle.tree_key.specs.Key.{key_words}
use Rattle.tree_table.specs.Field.{field}
use Rattle.tree_table.specs.View.{key_at}
use Rattle.tree_table.specs.Chain.{list_at, Ends, seek_in}
use Rattle.tree_table.proofs.get.Given as goal

abbrev pub invariant-loop-x : goal.invariant-loop-x
invariant-loop-x l = Ends l.table l.w (l.w - 4) l.x × (l.n + length (list_at l.table l.w (l.w - 4) l.x) ≤ 65536) × (seek_in (key_at (field l.w l.table)) (key_words l.key) (list_at l.table l.w (l.w - 4) l.x) l.n ≡ seek_in (key_at (field l.w l.table)) (key_words l.key) (list_at l.table l.w (l.w - 4) l.first) 0)

abbrev pub decreases-loop-x : goal.decreases-loop-x
decreases-loop-x l = length (list_at l.table l.w (l.w - 4) l.x)
