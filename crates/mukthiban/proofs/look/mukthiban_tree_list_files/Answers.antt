-- `mukthiban_tree_list_files` meets its contract.
use Rattle.mukthiban.proofs.look.mukthiban_tree_list_files.Goals as goal

pub returns : goal.returns
returns c = (_, c.into.ensures.0, rw c.into.ensures.1 c.list_files.ensures)
