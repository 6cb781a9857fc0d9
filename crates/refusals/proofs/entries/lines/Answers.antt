-- `lines` meets its contract.
use Rattle.std.proofs.Common.{◌-◌, rules}
use Rattle.refusals.proofs.entries.lines.Goals as goal

pub loop-at-preserved : goal.loop-at-preserved
loop-at-preserved c = (search rules, search rules, search rules, search rules, search rules, search rules)
