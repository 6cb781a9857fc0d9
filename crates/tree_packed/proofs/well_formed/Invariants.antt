use Rattle.tree_packed.proofs.Walks.{Front}
use Rattle.tree_packed.proofs.well_formed.Given as goal

abbrev pub invariant-loop-pair : goal.invariant-loop-pair
invariant-loop-pair l = Front l.k l.list l.pair-index l.last
