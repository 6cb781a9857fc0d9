-- `places` meets its contract.
use Rattle.std.proofs.Common.{◌-◌, ◌≤◌, length}
use Rattle.refusals.proofs.tell.places.Given as goal

abbrev pub invariant-loop-i : goal.invariant-loop-i
invariant-loop-i l = l.i ≤ length l.work

abbrev pub decreases-loop-i : goal.decreases-loop-i
decreases-loop-i l = length l.work - l.i
