-- `check_bucket` meets its contract.
use Prim.Native.Nat.{◌-◌}
use lib.ListN.{length}
use Rattle.tree_table.specs.Chain.{list_at}
use Rattle.tree_alone.specs.Inner.Entries.{Fits}
use Rattle.tree_alone.proofs.Entries.{Going}
use Rattle.tree_alone.proofs.check_bucket.Given as goal

abbrev pub invariant-loop-x : goal.invariant-loop-x
invariant-loop-x l = Going l.table l.w l.first (λ y. Fits l.table l.w l.buckets l.long y l.mark) l.x

abbrev pub decreases-loop-x : goal.decreases-loop-x
decreases-loop-x l = length (list_at l.table l.w (l.w - 4) l.x)
