-- `lines` meets its contract.
use Rattle.std.proofs.Common.{◌≡◌, ◌-◌, length}
use Rattle.refusals.proofs.entries.lines.Given as goal

abbrev pub invariant-loop-at : goal.invariant-loop-at
invariant-loop-at l = (length l.dh ≡ length l.initial.dh) × (length l.d ≡ length l.initial.d) × (length l.fh ≡ length l.initial.fh) × (length l.f ≡ length l.initial.f) × (length l.dir_opens ≡ length l.initial.dir_opens) × (length l.file_opens ≡ length l.initial.file_opens)

abbrev pub decreases-loop-at : goal.decreases-loop-at
decreases-loop-at l = length l.script - l.at
