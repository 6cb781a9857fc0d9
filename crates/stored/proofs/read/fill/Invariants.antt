-- `fill` meets its contract.
use Rattle.std.proofs.Common.{◌≡◌, ◌-◌, length}
use Rattle.stored.proofs.read.fill.Given as goal

abbrev pub invariant-loop-i : goal.invariant-loop-i
invariant-loop-i l = length l.buf ≡ length l.initial.buf

abbrev pub decreases-loop-i : goal.decreases-loop-i
decreases-loop-i l = length l.initial.buf - l.i
