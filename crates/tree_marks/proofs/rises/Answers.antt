-- `rises` meets its contract.
use mathlib.Core.Path.{refl}
use Rattle.tree_marks.proofs.Climbing.{rises_gone, rises_not, rises_up}
use borrow.Author.Rules.{rules}
use Rattle.tree_marks.proofs.rises.Goals as goal

pub returns-then-m-eq-GONE : goal.returns-then-m-eq-GONE
returns-then-m-eq-GONE c = rises_gone _ _ (search rules) (search rules) c.index.ensures refl c.if-m-eq-GONE.true

pub returns-then-not-climbs : goal.returns-then-not-climbs
returns-then-not-climbs c = rises_not _ _ (search rules) (search rules) c.index.ensures refl c.if-m-eq-GONE.false c.climbs.ensures (search rules)

pub flatten-requires : goal.flatten-requires
flatten-requires c = (search rules, search rules, search rules, c.climbs.ensures.yes (search rules))

pub returns : goal.returns
returns c = rises_up _ _ (search rules) (search rules) c.index.ensures refl c.if-m-eq-GONE.false c.climbs.ensures (search rules) c.flatten.ensures
