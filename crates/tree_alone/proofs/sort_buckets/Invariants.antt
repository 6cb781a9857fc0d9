-- `sort_buckets` meets its contract.
use Prim.Native.Nat.{◌+◌}
use Rattle.tree_alone.proofs.Entries.{Filling}
use Rattle.tree_alone.proofs.sort_buckets.Given as goal

abbrev pub invariant-loop-b : goal.invariant-loop-b
invariant-loop-b l = Filling l.hash l.table l.w l.count l.buckets l.off l.initial.work l.work l.longest (l.b + 1)
