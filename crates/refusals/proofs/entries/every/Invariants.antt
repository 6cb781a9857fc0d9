-- `every` meets its contract.
use Rattle.std.proofs.Common.{◌≡◌, ◌-◌, length}
use Rattle.refusals.proofs.entries.every.Given as goal

abbrev pub invariant-loop-which : goal.invariant-loop-which
invariant-loop-which l = (length l.dh ≡ length l.initial.dh) × (length l.d ≡ length l.initial.d) × (length l.fh ≡ length l.initial.fh) × (length l.f ≡ length l.initial.f) × (length l.dir_opens ≡ length l.initial.dir_opens) × (length l.file_opens ≡ length l.initial.file_opens)

abbrev pub decreases-loop-which : goal.decreases-loop-which
decreases-loop-which l = l.l.b - l.which
