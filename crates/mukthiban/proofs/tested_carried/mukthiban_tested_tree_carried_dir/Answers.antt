-- `mukthiban_tested_tree_carried_dir` meets its contract.
use Rattle.mukthiban.proofs.tested_carried.mukthiban_tested_tree_carried_dir.Goals as goal

pub returns : goal.returns
returns c = (_, c.number.ensures, rw c.unwrap_or.ensures c.carried_dir-r.ensures)
