use Rattle.std.proofs.Common.{◌-◌, ◌≤◌}
use Rattle.retraced.proofs.replay.compare.Given as goal

abbrev pub invariant-loop-block : goal.invariant-loop-block
invariant-loop-block l = l.nodes ≤ l.block

abbrev pub decreases-loop-block : goal.decreases-loop-block
decreases-loop-block l = l.n - l.block
