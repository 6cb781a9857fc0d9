-- `tree_aged::sort` meets its contract.
use Rattle.tree_aged.proofs.Lowers.{sort_count_is}
use Rattle.tree_aged.proofs.sort.Goals as goal

pub lowest-found-requires-clause-count_value : goal.lowest-found-requires-clause-count_value
lowest-found-requires-clause-count_value c = search (sort_count_is)
