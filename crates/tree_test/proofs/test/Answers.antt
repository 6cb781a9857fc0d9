-- `test` meets its contract.
use Rattle.tree_test.proofs.Cases.{test_told}
use Rattle.tree_test.proofs.test.Goals as goal

pub returns : goal.returns
returns c = search (test_told)
