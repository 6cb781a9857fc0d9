-- `tree_aged::open_link` meets its contract.
use Rattle.tree_aged.proofs.Opens.{coll_placed, next_placed, open_coll, open_next, open_no}
use Rattle.tree_aged.proofs.open_link.Goals as goal

pub is_open-requires : goal.is_open-requires
is_open-requires c = search (coll_placed)

pub returns-then-is_open : goal.returns-then-is_open
returns-then-is_open c = search (open_coll)

pub is_open-requires-2 : goal.is_open-requires-2
is_open-requires-2 c = search (next_placed)

pub returns-then-is_open-2 : goal.returns-then-is_open-2
returns-then-is_open-2 c = search (open_next)

pub returns : goal.returns
returns c = search (open_no)
