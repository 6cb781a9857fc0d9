use lib.ListN.{length}
use Rattle.tree_table.specs.Chain.{list_at}
use Rattle.tree_table.proofs.Chain.{Writing}
use Rattle.tree_table.proofs.write_list.Given as goal

abbrev pub invariant-loop-x : goal.invariant-loop-x
invariant-loop-x l = Writing l.table l.w l.at l.first l.initial.list l.list l.x l.i

abbrev pub decreases-loop-x : goal.decreases-loop-x
decreases-loop-x l = length (list_at l.table l.w l.at l.x)
