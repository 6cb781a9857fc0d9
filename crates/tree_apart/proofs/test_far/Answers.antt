-- `test_far` meets its contract.
use borrow.Author.Rules.{rules}
use Rattle.tree_apart.proofs.Differing.{sift_stop, sift_end}
use Rattle.tree_apart.proofs.test_far.Goals as goal

pub returns-then-not-sift : goal.returns-then-not-sift
returns-then-not-sift c = sift_stop c.sift.ensures (search rules)

pub returns : goal.returns
returns c = sift_end c.sift.ensures (search rules) c.requires.5 c.wipe.ensures c.link_of-first.ensures c.mark_list.ensures
