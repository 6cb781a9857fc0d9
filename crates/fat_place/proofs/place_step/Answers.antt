use mathlib.Core.Path.{refl}
use native.Mathlib.Omega.{arith}
use Rattle.fat_walk.proofs.Found.{are_bytes}
use Rattle.fat_place.proofs.Placing.{place_low, place_long, place_done}
use Rattle.fat_place.proofs.place_step.Goals as goal

pub set_head-requires : goal.set_head-requires
set_head-requires c =
    let bytes = are_bytes _ c.slice_known-1.given in
    let low = place_low _ _ c.requires.volume bytes _ _ c.requires.window _ _ _ refl c.carve-first.ensures in
    let long = place_long _ _ c.requires.volume bytes _ _ c.requires.window _ _ _ refl c.carve-first.ensures _ c.set_node.ensures in
    (omega (arith, low, c.requires.volume.few), omega (arith, long))

pub returns : goal.returns
returns c =
    let bytes = are_bytes _ c.slice_known-1.given in
    place_done _ _ c.requires.volume bytes _ _ c.requires.window _ _ _ refl c.carve-first.ensures _ c.set_node.ensures _ c.set_head.ensures
