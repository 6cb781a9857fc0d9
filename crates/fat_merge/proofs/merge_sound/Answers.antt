use native.Mathlib.Omega.{arith}
use Rattle.fat_walk.proofs.Found.{are_bytes}
use Rattle.fat_merge.proofs.Merging.{merge_long, merge_reading, merge_from, merge_met, merge_low, merge_room, merge_done_lem, merge_clear, index_small}
use Rattle.fat_merge.proofs.merge_sound.Goals as goal

pub mark-requires : goal.mark-requires
mark-requires c = record { volume = c.requires.volume; work_len = merge_long _ _ c.requires.work_value }

pub skip-from-requires : goal.skip-from-requires
skip-from-requires c =
    let bytes = are_bytes _ c.slice_known-1.given in
    merge_reading _ _ _ _ c.requires.volume bytes c.requires.work_value c.mark.ensures

pub lay_from-requires : goal.lay_from-requires
lay_from-requires c = let bytes = are_bytes _ c.slice_known-1.given in record { reading = merge_from _ _ _ _ c.requires.volume bytes c.requires.work_value c.mark.ensures _ c.skip-from.ensures; fact = merge_met _ _ _ _ c.requires.volume bytes c.requires.work_value c.mark.ensures _ c.skip-from.ensures }

pub set_head-requires : goal.set_head-requires
set_head-requires c =
    let bytes = are_bytes _ c.slice_known-1.given in
    let low = merge_low _ _ _ _ c.requires.volume bytes c.requires.work_value c.mark.ensures _ c.skip-from.ensures in
    let room = merge_room _ _ _ _ c.requires.volume bytes c.requires.work_value c.mark.ensures _ c.skip-from.ensures _ _ c.lay_from.ensures in
    (omega (arith, index_small _ _ _ c.requires.volume.few low c.index_of-head.ensures), omega (arith, room))

pub returns : goal.returns
returns c =
    let bytes = are_bytes _ c.slice_known-1.given in (
      merge_done_lem _ _ _ _ c.requires.volume bytes c.requires.work_value c.mark.ensures _ c.skip-from.ensures _ _ _ _ c.index_of-head.ensures c.lay_from.ensures c.set_head.ensures,
      merge_clear _ _ _ _ c.requires.volume bytes c.requires.work_value c.mark.ensures _ c.skip-from.ensures _ _ c.lay_from.ensures,
    )
