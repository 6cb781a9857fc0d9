use borrow.Author.Rules.{rules}
use Rattle.fat_walk.proofs.Found.{file_fits, file_from, are_bytes}
use Rattle.fat_plan.proofs.Finds.{find_file, find_is, find_double, find_space, find_short, find_found}
use Rattle.fat_plan.proofs.planner.judge_find.Goals as goal

pub returns-then-not-is_file : goal.returns-then-not-is_file
returns-then-not-is_file c = (search (find_file), search rules)

pub overflow_add-first_block : goal.overflow_add-first_block
overflow_add-first_block c = search (file_fits, find_is)

pub count_of-count-requires : goal.count_of-count-requires
count_of-count-requires c = search (file_from, find_is, are_bytes)

pub returns-then-index-eq0 : goal.returns-then-index-eq0
returns-then-index-eq0 c = (search (find_space), search rules)

pub overflow_mul-count : goal.overflow_mul-count
overflow_mul-count c = search (find_double, are_bytes)

pub returns-then-room-count : goal.returns-then-room-count
returns-then-room-count c = (search (find_short), search rules)

pub returns : goal.returns
returns c = (search (find_found, are_bytes), search rules)
