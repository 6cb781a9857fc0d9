use Prim.Native.Nat.{◌-◌}
use Rattle.fat_retrace.proofs.Scans.{Going}
use Rattle.fat_retrace.proofs.Turns.{joins_of}
use Rattle.fat_retrace.proofs.join_files.Given as goal

abbrev pub invariant-loop-b : goal.invariant-loop-b
invariant-loop-b l = Going (joins_of l.n l.table) l.n l.table l.k l.initial.list l.b l.at l.list

abbrev pub decreases-loop-b : goal.decreases-loop-b
decreases-loop-b l = l.n - l.b
