use Rattle.fat_walk.proofs.Found.{are_bytes}
use Rattle.fat_first.proofs.Builds.{node_fits, node_room, mark_later, mark_free, mark_turnable, mark_done}
use Rattle.fat_first.proofs.mark_first.Goals as goal
use Rattle.fat_first.proofs.mark_first.Goals.{else-prev_of-eq0-via-then-prev_of-eq0+else-head-b, else-prev_of-eq0-via-else-prev_of-eq0}

pub prev_of-requires : goal.prev_of-requires
prev_of-requires c = search (node_room, are_bytes)

pub overflow_add-b : goal.overflow_add-b
overflow_add-b c = search (node_fits, are_bytes)

pub turn_one-requires : goal.turn_one-requires
turn_one-requires c = search (mark_turnable, are_bytes)

pub returns-then-head-b : goal.returns-then-head-b
returns-then-head-b c = search (mark_done, are_bytes)

pub returns-else-prev_of-eq0 : goal.returns-else-prev_of-eq0
returns-else-prev_of-eq0 c =
    elim c.else-prev_of-eq0.branch [
      | else-prev_of-eq0-via-then-prev_of-eq0+else-head-b w ↦ search (mark_free, are_bytes)
      | else-prev_of-eq0-via-else-prev_of-eq0 w ↦ search (mark_later, are_bytes)
    ]
