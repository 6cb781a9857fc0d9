use Rattle.audit_inner.proofs.Marking.{going_begin, going_node, going_standing, going_fits, going_less, going_on, going_end}
use native.Mathlib.Omega.{arith}
use Rattle.fat_walk.proofs.Found.{are_bytes}
use Prim.Native.Nat.{◌-◌}
use Rattle.audit_inner.proofs.mark_chains.Goals as goal

pub head_of-head-requires : goal.head_of-head-requires
head_of-head-requires c = omega arith

pub loop-b-init : goal.loop-b-init
loop-b-init c = search (going_begin)

pub chain_at-requires : goal.chain_at-requires
chain_at-requires c = search (going_node, are_bytes)

pub bounds-work-b : goal.bounds-work-b
bounds-work-b c = omega arith

pub size_at-b-requires : goal.size_at-b-requires
size_at-b-requires c = search (going_standing, are_bytes)

pub overflow_add-b : goal.overflow_add-b
overflow_add-b c = search (going_fits, are_bytes)

pub loop-b-smaller : goal.loop-b-smaller
loop-b-smaller c = search (going_less, are_bytes)

pub loop-b-preserved : goal.loop-b-preserved
loop-b-preserved c = search (going_on, are_bytes)

pub returns : goal.returns
returns c = going_end _ _ _ _ _ c.loop-b.invariant (λ h. omega (arith, h))
