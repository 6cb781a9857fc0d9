use Rattle.std.proofs.Common.{◌<◌}
use Rattle.retraced.proofs.worn.wear.Given as goal

abbrev pub invariant-loop : goal.invariant-loop
invariant-loop l = l.x < 2147483648
