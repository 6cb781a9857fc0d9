use lib.ListN.{length}
use Rattle.fat_table.specs.Chain.{chain_at}
use Rattle.kiosk_create.proofs.Fitting.{Fitting}
use Rattle.kiosk_create.proofs.find_fit.Given as goal

abbrev pub invariant-loop-i : goal.invariant-loop-i
invariant-loop-i l = Fitting l.n l.table l.block_count l.i

abbrev pub decreases-loop-i : goal.decreases-loop-i
decreases-loop-i l = length (chain_at l.table l.n l.i)
