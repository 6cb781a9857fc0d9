-- `holds_list` meets its contract.
use Rattle.std.proofs.Common.{◌-◌, ◌≤◌, length}
use Rattle.stored.proofs.read.holds_list.Given as goal

abbrev pub invariant-loop-i : goal.invariant-loop-i
invariant-loop-i l = l.i ≤ length l.list

abbrev pub decreases-loop-i : goal.decreases-loop-i
decreases-loop-i l = length l.list - l.i
