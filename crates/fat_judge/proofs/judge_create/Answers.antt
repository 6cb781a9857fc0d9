use Rattle.fat_judge.proofs.Judges.{create_some, create_at}
use Rattle.fat_walk.proofs.Found.{head_chain, are_bytes}
use borrow.Author.Rules.{rules}
use Rattle.fat_judge.proofs.judge_create.Goals as goal

pub seek-requires : goal.seek-requires
seek-requires c = record { chain_from = search (head_chain, are_bytes); le_count = search rules }

pub overflow_sub-first : goal.overflow_sub-first
overflow_sub-first c = search (create_some, are_bytes)

pub returns : goal.returns
returns c = search (create_at, are_bytes)
