use Rattle.fat_walk.proofs.Walks.{on_past, on_at, on_within, on_next, on_less, on_room}
use Rattle.fat_walk.proofs.seek_on.Goals as goal

pub size_at-size-requires : goal.size_at-size-requires
size_at-size-requires c = search on_at

pub returns-then-k-size : goal.returns-then-k-size
returns-then-k-size c = search on_within

pub next_of-i-requires : goal.next_of-i-requires
next_of-i-requires c = search on_room

pub loop-i-smaller : goal.loop-i-smaller
loop-i-smaller c = search on_less

pub loop-i-preserved : goal.loop-i-preserved
loop-i-preserved c = search on_next

pub returns : goal.returns
returns c = search on_past
