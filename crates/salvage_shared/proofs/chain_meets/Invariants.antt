-- `salvage_shared::chain_meets` meets its contract.
use Rattle.salvage_shared.proofs.Goings.{Going, Alone}
use Rattle.salvage_shared.proofs.chain_meets.Given as goal

abbrev pub invariant-loop-i : goal.invariant-loop-i
invariant-loop-i l = Going l.n l.table l.first l.i l.left (Alone l.work)

abbrev pub decreases-loop-i : goal.decreases-loop-i
decreases-loop-i l = l.left
