use Rattle.kiosk_inner.proofs.Rules.{profile_says}
use borrow.Author.Rules.{rules}
use Rattle.kiosk_inner.proofs.broken_rule.Goals as goal

pub returns : goal.returns
returns c = search (profile_says, rules)
