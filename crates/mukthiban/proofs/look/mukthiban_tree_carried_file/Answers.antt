-- `mukthiban_tree_carried_file` meets its contract.
use Rattle.mukthiban.proofs.look.mukthiban_tree_carried_file.Goals as goal

pub returns : goal.returns
returns c = (_, c.number.ensures, rw c.unwrap_or.ensures c.carried_file-r.ensures)
