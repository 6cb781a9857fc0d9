-- `every` meets its contract.
use Rattle.std.proofs.Common.{◌-◌, rules}
use Rattle.refusals.proofs.entries.every.Goals as goal

pub loop-which-preserved : goal.loop-which-preserved
loop-which-preserved c = (search rules, search rules, search rules, search rules, search rules, search rules)
