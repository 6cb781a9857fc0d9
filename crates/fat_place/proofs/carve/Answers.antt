use native.Mathlib.Omega.{arith}
use Rattle.fat_walk.proofs.Found.{are_bytes}
use Rattle.fat_place.proofs.Carving.{carve_begin, carve_end, carve_standing, carve_fits, carve_next, carve_less}
use Rattle.fat_place.proofs.carve.Goals as goal

pub loop-i-init : goal.loop-i-init
loop-i-init c = search (carve_begin, are_bytes)

pub size_at-size-requires : goal.size_at-size-requires
size_at-size-requires c = search (carve_standing)

pub next_of-i-requires : goal.next_of-i-requires
next_of-i-requires c =
    let s = carve_standing _ _ _ _ _ _ _ _ _ _ c.loop-i.invariant c.loop-i-test.true in
    omega (arith, s.room, s.node.some, s.node.within)

pub put_parts-w-requires : goal.put_parts-w-requires
put_parts-w-requires c = let v = c.loop-i.invariant in record { n_bound = (v.few, v.room); waits = v.waits; le_size = carve_fits _ _ _ _ _ _ _ _ _ _ v c.loop-i-test.true _ c.size_at-size.ensures c.requires.m_le_end }

pub loop-i-smaller : goal.loop-i-smaller
loop-i-smaller c =
    carve_less _ _ _ _ _ _ _ _ _ _ c.loop-i.invariant c.loop-i-test.true _ c.size_at-size.ensures _ c.next_of-i.ensures _ _ _ _ _ c.put_parts-w.ensures

pub loop-i-preserved : goal.loop-i-preserved
loop-i-preserved c =
    carve_next _ _ _ _ _ _ _ _ _ _ c.loop-i.invariant c.loop-i-test.true _ c.size_at-size.ensures _ c.next_of-i.ensures _ _ _ _ _ c.put_parts-w.ensures c.requires.m_le_end

pub put_last-requires : goal.put_last-requires
put_last-requires c = let v = c.loop-i.invariant in record { n_bound = (v.few, v.room); waits = v.waits }

pub returns : goal.returns
returns c =
    carve_end _ _ _ _ _ _ _ _ _ _ c.loop-i.invariant c.loop-i-test.false _ _ c.put_last.ensures c.first_of-first.ensures
