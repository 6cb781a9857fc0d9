-- `mukthiban_tested_tree_list_dirs` meets its contract.
use Rattle.mukthiban.proofs.tested_look.mukthiban_tested_tree_list_dirs.Goals as goal

pub returns : goal.returns
returns c = (_, c.into.ensures.0, rw c.into.ensures.1 c.list_dirs.ensures)
