use lib.ListN.{length}
use Rattle.fat_table.specs.Chain.{chain_at}
use Rattle.fat_merge.proofs.Marked.{Walking}
use Rattle.fat_merge.proofs.mark.Given as goal

abbrev pub invariant-loop-i : goal.invariant-loop-i
invariant-loop-i l = Walking l.table l.n l.initial.work l.i l.work

abbrev pub decreases-loop-i : goal.decreases-loop-i
decreases-loop-i l = length (chain_at l.table l.n l.i)
