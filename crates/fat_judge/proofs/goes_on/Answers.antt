use Rattle.fat_walk.proofs.Found.{amid_standing, amid_room, amid_fits, amid_way}
use Rattle.fat_judge.proofs.Reached.{reach_fits, goes_near, goes_far, goes_not}
use Rattle.fat_judge.proofs.goes_on.Goals as goal

pub size_at-requires : goal.size_at-requires
size_at-requires c = search amid_standing

pub overflow_mul-reach : goal.overflow_mul-reach
overflow_mul-reach c = search (reach_fits, amid_standing)

pub returns-then-end-reach : goal.returns-then-end-reach
returns-then-end-reach c = search goes_near

pub next_of-next-requires : goal.next_of-next-requires
next_of-next-requires c = search amid_room

pub overflow_add-b : goal.overflow_add-b
overflow_add-b c = search amid_fits

pub seek_on-requires : goal.seek_on-requires
seek_on-requires c = search amid_way

pub returns-in-Within : goal.returns-in-Within
returns-in-Within c = search goes_far

pub returns-in-Past : goal.returns-in-Past
returns-in-Past c = search goes_not
