-- `far_apart` meets its contract.
use mathlib.Core.Path.{◌≡◌}
use Prim.Native.Nat.{◌+◌}
use lib.ListN.{length}
use Rattle.tree_apart.proofs.Differing.{Seeing, Right}
use Rattle.tree_apart.proofs.far_apart.Given as goal

abbrev pub invariant-loop-b : goal.invariant-loop-b
invariant-loop-b l = Seeing l.hash (Right l.hash l.table l.w) l.buckets (l.b + 1) × (length l.room ≡ length l.initial.room)
