use Rattle.fat_judge.proofs.Judges.{in_standing, in_amid, resize_same, resize_shrink, past_some, past_last, resize_grow}
use Rattle.fat_walk.proofs.Found.{head_chain, file_from, are_bytes}
use borrow.Author.Rules.{rules}
use Rattle.fat_judge.proofs.judge_count.Goals as goal

pub seek-requires : goal.seek-requires
seek-requires c = record { chain_from = search (file_from, are_bytes); le_count = search rules }

pub is_end-requires : goal.is_end-requires
is_end-requires c = search (in_standing, are_bytes)

pub returns-then-is_end : goal.returns-then-is_end
returns-then-is_end c = search (resize_same, are_bytes)

pub last_from-last-requires : goal.last_from-last-requires
last_from-last-requires c = search (in_amid, are_bytes)

pub seek-requires-in-Past : goal.seek-requires-in-Past
seek-requires-in-Past c = record { chain_from = search (head_chain, are_bytes); le_count = search (past_some, are_bytes) }

pub overflow_sub-last : goal.overflow_sub-last
overflow_sub-last c = search (past_last, are_bytes)

pub returns-else-is_end : goal.returns-else-is_end
returns-else-is_end c = search (resize_shrink, are_bytes)

pub returns-in-Within-seek : goal.returns-in-Within-seek
returns-in-Within-seek c = search (resize_grow, are_bytes)
