-- `all_reach` meets its contract.
use borrow.Author.Rules.{rules}
use Rattle.tree_marks.proofs.Climbing.{reach_begin, reach_on, reach_stop, reach_done}
use Rattle.tree_marks.proofs.all_reach.Goals as goal

pub loop-y-init : goal.loop-y-init
loop-y-init c = reach_begin _ _

pub returns-then-not-rises : goal.returns-then-not-rises
returns-then-not-rises c = reach_stop c.loop-y.invariant c.rises.ensures (search rules)

pub loop-y-preserved : goal.loop-y-preserved
loop-y-preserved c = reach_on c.loop-y.invariant c.rises.ensures (search rules)

pub returns : goal.returns
returns c = reach_done c.loop-y.invariant (search rules)
