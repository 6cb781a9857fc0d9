-- `salvage_shared::lay_run` meets its contract.
use native.Mathlib.Omega.{arith}
use Rattle.salvage_shared.proofs.Counted.{run_begin, run_turn}
use Rattle.salvage_shared.proofs.lay_run.Goals as goal

pub loop-x-init : goal.loop-x-init
loop-x-init c = run_begin _ _

pub loop-x-preserved : goal.loop-x-preserved
loop-x-preserved c = run_turn _ _ _ _ (omega arith) c.loop-x.invariant (omega arith) _ c.one_more.ensures
