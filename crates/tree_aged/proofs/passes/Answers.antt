-- `tree_aged::passes` meets its contract.
use borrow.Author.Tests.{ne_eqb}
use Rattle.tree_aged.proofs.Lowers.{pass_known, pass_walked}
use Rattle.tree_aged.proofs.passes.Goals as goal

pub returns-then-work-index-ne0 : goal.returns-then-work-index-ne0
returns-then-work-index-ne0 c =
    rw (ne_eqb _ 0 c.if-work-index-ne0.true) (pass_known _ _ _ _ _ c.requires.fits c.requires.known c.requires.y_nonzero c.requires.y_bound c.index.ensures c.if-work-index-ne0.true)

pub returns-else-work-index-ne0 : goal.returns-else-work-index-ne0
returns-else-work-index-ne0 c = search (pass_walked)
