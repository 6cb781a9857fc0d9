-- `salvage_tree::mark_gone` meets its contract.
use native.Mathlib.Omega.{arith}
use Rattle.salvage_tree.proofs.Loops.{marking_begin, marking_zero, marking_over, marking_met, marking_on}
use Rattle.salvage_tree.proofs.mark_gone.Goals as goal
use Rattle.salvage_tree.proofs.mark_gone.Goals.{then-x-eq0-via-then-x-eq0, then-x-eq0-via-else-x-eq0+then-n-x, then-x-eq0-via-else-x-eq0+else-n-x+then-work-i-ne0}

pub loop-init : goal.loop-init
loop-init c = search (marking_begin)

pub returns-then-x-eq0 : goal.returns-then-x-eq0
returns-then-x-eq0 c = elim c.then-x-eq0.branch [
  | then-x-eq0-via-then-x-eq0 w ↦ search (marking_zero)
  | then-x-eq0-via-else-x-eq0+then-n-x w ↦ search (marking_over)
  | then-x-eq0-via-else-x-eq0+else-n-x+then-work-i-ne0 w ↦ search (marking_met)
]

pub loop-preserved : goal.loop-preserved
loop-preserved c = search (marking_on, arith)
