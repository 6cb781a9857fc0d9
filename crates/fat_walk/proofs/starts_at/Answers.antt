use Rattle.fat_walk.proofs.Hops.{hop_begin, hop_standing, hop_within, hop_next}
use native.Mathlib.Omega.{arith}
use Rattle.fat_walk.proofs.starts_at.Goals as goal

pub loop-c-init : goal.loop-c-init
loop-c-init c = hop_begin _ _ _

pub size_at-c-requires : goal.size_at-c-requires
size_at-c-requires c =
    hop_standing _ _ _ _ c.requires.volume (record { byte = λ k. omega (arith, c.type_inv.table k) }) c.loop-c.invariant (omega arith) (omega arith)

pub overflow_add-c : goal.overflow_add-c
overflow_add-c c =
    let z = hop_within _ _ _ _ c.requires.volume (record { byte = λ k. omega (arith, c.type_inv.table k) }) c.loop-c.invariant (omega arith) (omega arith) in
    omega (arith, z.1, c.requires.volume.few, c.size_at-c.ensures)

pub loop-c-smaller : goal.loop-c-smaller
loop-c-smaller c =
    let z = hop_within _ _ _ _ c.requires.volume (record { byte = λ k. omega (arith, c.type_inv.table k) }) c.loop-c.invariant (omega arith) (omega arith) in
    omega (arith, z.0, c.size_at-c.ensures)

pub loop-c-preserved : goal.loop-c-preserved
loop-c-preserved c =
    hop_next _ _ _ _ c.requires.volume (record { byte = λ k. omega (arith, c.type_inv.table k) }) c.loop-c.invariant (omega arith) (omega arith) _ c.size_at-c.ensures
