use Rattle.fat_walk.proofs.Found.{amid_room, amid_fits, amid_way, last_on, last_end, last_end_some}
use Rattle.fat_walk.proofs.last_from.Goals as goal

pub next_of-next-requires : goal.next_of-next-requires
next_of-next-requires c = search amid_room

pub overflow_add-b : goal.overflow_add-b
overflow_add-b c = search amid_fits

pub seek_on-requires : goal.seek_on-requires
seek_on-requires c = search amid_way

pub overflow_sub-result : goal.overflow_sub-result
overflow_sub-result c = search last_end_some

pub returns-in-Within : goal.returns-in-Within
returns-in-Within c = search last_on

pub returns-in-Past : goal.returns-in-Past
returns-in-Past c = search last_end
