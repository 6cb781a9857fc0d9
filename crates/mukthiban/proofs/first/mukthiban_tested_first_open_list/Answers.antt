-- `mukthiban_tested_first_open_list` meets its contract.
use Rattle.mukthiban.proofs.first.mukthiban_tested_first_open_list.Goals as goal

pub returns : goal.returns
returns c = (_, c.into.ensures.0, c.into.ensures.1, rw c.into.ensures.2 c.open_list.ensures)
