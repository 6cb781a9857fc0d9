-- `mark_children` meets its contract.
use native.Mathlib.Omega.{arith}
use borrow.Author.Rules.{rules}
use Rattle.tree_marks.proofs.Gathering.{children_begin, children_on, children_stop, children_done}
use Rattle.tree_marks.proofs.mark_children.Goals as goal

pub loop-p-init : goal.loop-p-init
loop-p-init c = children_begin _ _ _ _ _ _

pub returns-then-not-mark_dir : goal.returns-then-not-mark_dir
returns-then-not-mark_dir c = children_stop c.loop-p.invariant (omega arith) (omega arith) c.mark_dir.ensures (search rules)

pub loop-p-preserved : goal.loop-p-preserved
loop-p-preserved c = children_on c.loop-p.invariant (omega arith) (omega arith) c.mark_dir.ensures (search rules)

pub returns : goal.returns
returns c = children_done c.loop-p.invariant (omega arith) (omega arith)
