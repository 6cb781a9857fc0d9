use Prim.Native.Nat.{◌-◌, ◌/◌}
use Rattle.tree_table.proofs.Cases.{Copying}
use Rattle.tree_table.proofs.copy_entry.Given as goal

abbrev pub invariant-loop-i : goal.invariant-loop-i
invariant-loop-i l = Copying l.w l.initial.table l.x (l.w / 4 - 1) l.table l.i
