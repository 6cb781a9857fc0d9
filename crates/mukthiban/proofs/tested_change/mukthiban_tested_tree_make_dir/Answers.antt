-- `mukthiban_tested_tree_make_dir` meets its contract.
use Rattle.mukthiban.proofs.tested_change.mukthiban_tested_tree_make_dir.Goals as goal

pub returns : goal.returns
returns c = (_, c.into.ensures.0, rw c.into.ensures.1 c.make_dir.ensures)
