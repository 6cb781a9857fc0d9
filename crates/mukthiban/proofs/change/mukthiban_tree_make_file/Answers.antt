-- `mukthiban_tree_make_file` meets its contract.
use Rattle.mukthiban.proofs.change.mukthiban_tree_make_file.Goals as goal

pub returns : goal.returns
returns c = (_, c.into.ensures.0, rw c.into.ensures.1 c.make_file.ensures)
