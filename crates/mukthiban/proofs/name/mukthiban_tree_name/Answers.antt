-- `mukthiban_tree_name` meets its contract.
use Rattle.mukthiban.proofs.name.mukthiban_tree_name.Goals as goal

pub returns : goal.returns
returns c = (_, c.into.ensures.0, rw c.into.ensures.1 c.name.ensures)
