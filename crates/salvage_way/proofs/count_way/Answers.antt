-- `salvage_way::count_way` meets its contract.
use native.Mathlib.Omega.{arith}
use Rattle.salvage_way.proofs.Climbs.{count_begin, count_zero, count_over, count_met, count_on}
use Rattle.salvage_way.proofs.count_way.Goals as goal
use Rattle.salvage_way.proofs.count_way.Goals.{then-x-eq0-via-then-x-eq0, then-x-eq0-via-else-x-eq0+then-n-x, then-x-eq0-via-else-x-eq0+else-n-x+then-work-i-ne0}

pub loop-init : goal.loop-init
loop-init c = search (count_begin)

pub returns-then-x-eq0 : goal.returns-then-x-eq0
returns-then-x-eq0 c = elim c.then-x-eq0.branch [
  | then-x-eq0-via-then-x-eq0 w ↦ search (count_zero)
  | then-x-eq0-via-else-x-eq0+then-n-x w ↦ search (count_over)
  | then-x-eq0-via-else-x-eq0+else-n-x+then-work-i-ne0 w ↦ search (count_met)
]

pub loop-preserved : goal.loop-preserved
loop-preserved c = search (count_on, arith)
