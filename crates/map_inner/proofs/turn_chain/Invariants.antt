use lib.ListN.{length}
use Rattle.fat_table.specs.Chain.{chain_at}
use Rattle.map_inner.proofs.Walks.{Walk}
use Rattle.map_inner.proofs.turn_chain.Given as goal

abbrev pub invariant-loop-i : goal.invariant-loop-i
invariant-loop-i l = Walk l.n l.table l.first l.stop l.on l.initial.map l.i l.map

abbrev pub decreases-loop-i : goal.decreases-loop-i
decreases-loop-i l = length (chain_at l.table l.n l.i)
