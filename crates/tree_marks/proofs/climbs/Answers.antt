-- `climbs` meets its contract.
use mathlib.Core.Path.{refl}
use borrow.Author.Rules.{rules}
use Rattle.tree_marks.proofs.Climbing.{climb_begin, climb_on, climb_end, climb_past, climb_long}
use Rattle.tree_marks.proofs.climbs.Goals as goal

pub loop-x-init : goal.loop-x-init
loop-x-init c = climb_begin _ _ _

pub returns-then-x-count : goal.returns-then-x-count
returns-then-x-count c = climb_past c.loop-x.invariant (search rules) (search rules)

pub returns-then-steps-count : goal.returns-then-steps-count
returns-then-steps-count c = climb_long c.loop-x.invariant (search rules) (search rules) (search rules)

pub loop-x-preserved : goal.loop-x-preserved
loop-x-preserved c = climb_on c.loop-x.invariant _ _ c.index.ensures (search rules) (search rules) (search rules) refl

pub returns : goal.returns
returns c = climb_end c.loop-x.invariant (search rules)
