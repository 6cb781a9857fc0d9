-- `fill` meets its contract.
use Rattle.std.proofs.Common.{◌≡◌, ◌-◌, length}
use Rattle.refusals.proofs.tell.fill.Given as goal

abbrev pub invariant-loop-i : goal.invariant-loop-i
invariant-loop-i l = length l.list ≡ length l.initial.list

abbrev pub decreases-loop-i : goal.decreases-loop-i
decreases-loop-i l = length l.initial.list - l.i
