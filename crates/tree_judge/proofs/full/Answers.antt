use native.Mathlib.Omega.{arith}
use borrow.Author.Tests.{ne_eqb}
use Rattle.tree_judge.proofs.Judges.{full_removed, full_counted}
use Rattle.tree_judge.proofs.full.Goals as goal

pub returns-then-link_of-eq0 : goal.returns-then-link_of-eq0
returns-then-link_of-eq0 c = full_counted _ _ c.requires.2 _ c.link_of.ensures _ _ c.if-link_of-eq0.true c.link_of-then-link_of-eq0.ensures c.link_of-then-link_of-eq0-2.ensures

pub returns-else-link_of-eq0 : goal.returns-else-link_of-eq0
returns-else-link_of-eq0 c = rw (ne_eqb _ _ c.if-link_of-eq0.false) (full_removed _ _ c.requires.2 _ c.link_of.ensures (λ z. omega arith))
