-- `salvage_shared::lay_one` meets its contract.
use native.Mathlib.Omega.{arith}
use Rattle.salvage_shared.proofs.Loops.{lay_whole, lay_not}
use Rattle.salvage_shared.proofs.lay_one.Goals as goal

pub returns-then-kind-number : goal.returns-then-kind-number
returns-then-kind-number c = lay_whole _ _ _ _ _ _ (omega arith) c.lay_chain.ensures

pub returns-else-kind-number : goal.returns-else-kind-number
returns-else-kind-number c = lay_not _ _ _ _ _ (λ e. c.if-kind-number.false (omega (arith, e)))
