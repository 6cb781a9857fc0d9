use mathlib.Core.Path.{refl}
use borrow.Author.Tests.{eq-eqb, ne_eqb}
use Rattle.tree_table.proofs.cut_bucket.Goals as goal

pub returns-then-p-eq0 : goal.returns-then-p-eq0
returns-then-p-eq0 c = simp (eq-eqb _ _ c.if-p-eq0.true) (c.put_hash.ensures, refl)

pub returns-else-p-eq0 : goal.returns-else-p-eq0
returns-else-p-eq0 c = simp (ne_eqb _ _ c.if-p-eq0.false) (refl, c.put_link.ensures)
