use native.Mathlib.Omega.{arith}
use Rattle.fat_walk.proofs.Found.{are_bytes}
use Rattle.fat_merge.proofs.Marked.{walk_begin, walk_next, walk_less, walk_end}
use Rattle.fat_merge.proofs.mark.Goals as goal

pub loop-i-init : goal.loop-i-init
loop-i-init c =
    walk_begin _ _ _ _ c.requires.volume (are_bytes _ c.type_inv.table) c.requires.work_len c.head_of-i.ensures

pub bounds-work-b : goal.bounds-work-b
bounds-work-b c = omega arith

pub next_of-i-requires : goal.next_of-i-requires
next_of-i-requires c = omega arith

pub loop-i-smaller : goal.loop-i-smaller
loop-i-smaller c = search walk_less

pub loop-i-preserved : goal.loop-i-preserved
loop-i-preserved c = search walk_next

pub returns : goal.returns
returns c = search walk_end
