-- `tree_aged::mark_gone` meets its contract.
use native.Mathlib.Omega.{arith}
use Rattle.tree_aged.proofs.Lowers.{begun, sort_inside, sort_wide, sort_room}
use Rattle.tree_aged.proofs.mark_gone.Goals as goal

pub mark_list-requires : goal.mark_list-requires
mark_list-requires c = (search (sort_inside), search (sort_wide), search (sort_room), omega arith)

pub returns : goal.returns
returns c = search (begun)
