-- `fat_ends::link` meets its contract.
use Rattle.std.proofs.Common.{arith}
use Rattle.fat_ends.proofs.Ends.{link_none}
use Rattle.fat_ends.proofs.link.Goals as goal

pub returns-then-x-eq0 : goal.returns-then-x-eq0
returns-then-x-eq0 c = (omega arith, λ k st. link_none (omega arith) st)

pub returns-then-join : goal.returns-then-join
returns-then-join c = (omega arith, c.join.ensures.yes c.if-join.true)
