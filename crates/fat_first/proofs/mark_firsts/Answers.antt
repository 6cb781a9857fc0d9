use native.Mathlib.Omega.{arith}
use Prim.Native.Nat.{◌-◌}
use borrow.Author.Rules.{rules}
use Rattle.fat_walk.proofs.Found.{are_bytes}
use Rattle.fat_first.proofs.Builds.{building_begin, building_node, building_shows, building_standing, building_fits, building_less, building_on, building_end}
use Rattle.fat_first.proofs.mark_firsts.Goals as goal

pub head_of-head-requires : goal.head_of-head-requires
head_of-head-requires c = omega arith

pub loop-b-init : goal.loop-b-init
loop-b-init c = search (building_begin)

pub mark_first-requires : goal.mark_first-requires
mark_first-requires c = record { volume = search rules; node = search (building_node, are_bytes); head_value = search rules; firsts_value = search (building_shows, are_bytes) }

pub size_at-b-requires : goal.size_at-b-requires
size_at-b-requires c = search (building_standing, are_bytes)

pub overflow_add-b : goal.overflow_add-b
overflow_add-b c = search (building_fits, are_bytes)

pub loop-b-smaller : goal.loop-b-smaller
loop-b-smaller c = search (building_less, are_bytes)

pub loop-b-preserved : goal.loop-b-preserved
loop-b-preserved c = search (building_on, are_bytes)

pub shape_of-firsts : goal.shape_of-firsts
shape_of-firsts c = c.loop-b.invariant.long

pub returns : goal.returns
returns c = search (building_end, are_bytes)
