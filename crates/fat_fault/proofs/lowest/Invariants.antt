-- `fat_fault::lowest` meets its contract.
use Rattle.fat_fault.specs.Inner.Marks.{Coloured}
use Rattle.fat_fault.proofs.Passes.{Low}
use Rattle.std.proofs.Common.{length}
use Rattle.fat_fault.proofs.lowest.Given as goal

abbrev pub invariant-loop-b : goal.invariant-loop-b
invariant-loop-b l = Low (length l.initial.work) l.table l.b × Coloured (length l.initial.work) l.table l.b l.work
