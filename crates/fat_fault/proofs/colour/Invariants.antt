-- `fat_fault::colour` meets its contract.
use Rattle.fat_fault.proofs.Colours.{unseen, index_of, Colouring}
use Rattle.std.proofs.Common.{length}
use Rattle.fat_fault.proofs.colour.Given as goal

abbrev pub invariant-loop-at : goal.invariant-loop-at
invariant-loop-at l = Colouring (length l.initial.work) l.table l.b l.initial.work l.work (index_of l.at)

abbrev pub decreases-loop-at : goal.decreases-loop-at
decreases-loop-at l = unseen l.work
