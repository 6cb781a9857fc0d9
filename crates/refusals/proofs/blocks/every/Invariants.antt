-- `every` meets its contract.
use Rattle.std.proofs.Common.{◌≡◌, ◌-◌, length}
use Rattle.refusals.proofs.blocks.every.Given as goal

abbrev pub invariant-loop-which : goal.invariant-loop-which
invariant-loop-which l = (length l.table ≡ length l.initial.table) × (length l.data ≡ length l.initial.data) × (length l.work ≡ length l.initial.work) × (length l.list ≡ length l.initial.list) × (length l.buf ≡ length l.initial.buf)

abbrev pub decreases-loop-which : goal.decreases-loop-which
decreases-loop-which l = l.l.b - l.which
