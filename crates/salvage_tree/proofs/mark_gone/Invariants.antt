-- `salvage_tree::mark_gone` meets its contract.
use Prim.Native.Nat.{◌-◌}
use Rattle.salvage_tree.proofs.Loops.{Marking}
use Rattle.salvage_tree.proofs.mark_gone.Given as goal

abbrev pub invariant-loop : goal.invariant-loop
invariant-loop l = Marking l.w l.table l.n l.initial.work l.work l.x (l.n - l.counter)
