-- `salvage_shared::tell_one` meets its contract.
use native.Mathlib.Omega.{arith}
use Rattle.salvage_shared.proofs.Loops.{tell_cut, tell_shared, tell_alone}
use Rattle.salvage_shared.proofs.tell_one.Goals as goal
use Rattle.salvage_shared.proofs.tell_one.Goals.{else-kind-number-via-then-kind-number+else-chain_meets, else-kind-number-via-else-kind-number}

pub returns-then-chain_meets : goal.returns-then-chain_meets
returns-then-chain_meets c = tell_shared _ _ _ _ _ (omega arith) _ c.chain_meets.ensures _ c.number-then-chain_meets.ensures c.if-chain_meets.true

pub returns : goal.returns
returns c = elim c.else-kind-number.branch [
  | else-kind-number-via-then-kind-number+else-chain_meets w ↦ tell_alone _ _ _ _ _ (omega arith) _ w.chain_meets.ensures w.if-chain_meets.false
  | else-kind-number-via-else-kind-number w ↦ tell_cut _ _ _ _ _ (λ e. w.if-kind-number.false (omega (arith, e)))
]
