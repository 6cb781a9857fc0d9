-- `mukthiban_tested_tree_list_files` meets its contract.
use Rattle.mukthiban.proofs.tested_look.mukthiban_tested_tree_list_files.Goals as goal

pub returns : goal.returns
returns c = (_, c.into.ensures.0, rw c.into.ensures.1 c.list_files.ensures)
