-- `tree_aged::lowest` meets its contract.
use Rattle.tree_aged.proofs.Lowers.{low_on, low_end}
use Rattle.tree_aged.proofs.lowest.Goals as goal

pub loop-y-preserved : goal.loop-y-preserved
loop-y-preserved c = search (low_on)

pub returns : goal.returns
returns c = low_end c.loop-y.invariant _ c.requires.count_value c.loop-y-test.false
