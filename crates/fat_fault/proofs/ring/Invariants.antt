-- `fat_fault::ring` meets its contract.
use Rattle.fat_fault.proofs.Colours.{unrounded, Rounding}
use Rattle.std.proofs.Common.{length}
use Rattle.fat_fault.proofs.ring.Given as goal

abbrev pub invariant-loop-work : goal.invariant-loop-work
invariant-loop-work l = Rounding (length l.initial.work) l.table l.j l.initial.work l.work l.i

abbrev pub decreases-loop-work : goal.decreases-loop-work
decreases-loop-work l = unrounded l.work
