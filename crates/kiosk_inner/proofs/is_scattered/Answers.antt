use Rattle.kiosk_inner.proofs.Chains.{going_begin, going_standing, going_room, going_few, going_fits, going_less, going_found, going_on, going_end}
use native.Mathlib.Omega.{arith}
use Rattle.fat_walk.proofs.Found.{are_bytes}
use Prim.Native.Nat.{◌-◌}
use Rattle.kiosk_inner.proofs.is_scattered.Goals as goal

pub head_of-head-requires : goal.head_of-head-requires
head_of-head-requires c = omega arith

pub loop-b-init : goal.loop-b-init
loop-b-init c = search (going_begin)

pub goes_on-requires : goal.goes_on-requires
goes_on-requires c = search (going_room, going_few, are_bytes)

pub returns-then-goes_on : goal.returns-then-goes_on
returns-then-goes_on c = search (going_found, are_bytes)

pub size_at-b-requires : goal.size_at-b-requires
size_at-b-requires c = search (going_standing, are_bytes)

pub overflow_add-b : goal.overflow_add-b
overflow_add-b c = search (going_fits, are_bytes)

pub loop-b-smaller : goal.loop-b-smaller
loop-b-smaller c = search (going_less, are_bytes)

pub loop-b-preserved : goal.loop-b-preserved
loop-b-preserved c = search (going_on, are_bytes)

pub returns : goal.returns
returns c = search (going_end)
