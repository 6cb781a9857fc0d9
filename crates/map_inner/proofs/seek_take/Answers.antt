use Rattle.fat_walk.proofs.Found.{are_bytes}
use Rattle.map_inner.proofs.Takes.{taking_begin, taking_long, taking_past, taking_at, taking_room, taking_size, taking_turnable, taking_less, taking_next, taking_part, taking_cut, taking_within}
use Rattle.map_inner.proofs.seek_take.Goals as goal

pub loop-i-init : goal.loop-i-init
loop-i-init c = search (taking_begin, are_bytes)

pub size_at-size-requires : goal.size_at-size-requires
size_at-size-requires c = search (taking_at, are_bytes)

pub overflow_add-b : goal.overflow_add-b
overflow_add-b c = search (taking_part, are_bytes)

pub turn-requires : goal.turn-requires
turn-requires c = search (taking_cut, are_bytes)

pub shape_of-map-then-k-size : goal.shape_of-map-then-k-size
shape_of-map-then-k-size c = search (taking_long, are_bytes)

pub returns-then-k-size : goal.returns-then-k-size
returns-then-k-size c = search (taking_within, are_bytes)

pub overflow_add-b-in-loop-i : goal.overflow_add-b-in-loop-i
overflow_add-b-in-loop-i c = search (taking_size, are_bytes)

pub turn-requires-in-loop-i : goal.turn-requires-in-loop-i
turn-requires-in-loop-i c = search (taking_turnable, are_bytes)

pub next_of-i-requires : goal.next_of-i-requires
next_of-i-requires c = search (taking_room, are_bytes)

pub loop-i-smaller : goal.loop-i-smaller
loop-i-smaller c = search (taking_less, are_bytes)

pub loop-i-preserved : goal.loop-i-preserved
loop-i-preserved c = search (taking_next, are_bytes)

pub shape_of-map : goal.shape_of-map
shape_of-map c = c.loop-i.invariant.long

pub returns : goal.returns
returns c = search (taking_past, are_bytes)
