-- `lines` meets its contract.
use Rattle.std.proofs.Common.{◌≡◌, ◌-◌, length}
use Rattle.refusals.proofs.blocks.lines.Given as goal

abbrev pub invariant-loop-at : goal.invariant-loop-at
invariant-loop-at l = (length l.table ≡ length l.initial.table) × (length l.data ≡ length l.initial.data) × (length l.work ≡ length l.initial.work) × (length l.list ≡ length l.initial.list) × (length l.buf ≡ length l.initial.buf)

abbrev pub decreases-loop-at : goal.decreases-loop-at
decreases-loop-at l = length l.script - l.at
