use Prim.Native.Nat.{◌-◌}
use Rattle.fat_retrace.specs.History.{makes}
use Rattle.fat_retrace.proofs.Scans.{Going}
use Rattle.fat_retrace.proofs.make_nodes.Given as goal

abbrev pub invariant-loop-b : goal.invariant-loop-b
invariant-loop-b l = Going makes l.n l.table 0 l.initial.list l.b l.k l.list

abbrev pub decreases-loop-b : goal.decreases-loop-b
decreases-loop-b l = l.n - l.b
