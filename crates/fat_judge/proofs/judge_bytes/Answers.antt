use Rattle.fat_judge.proofs.Reached.{node_fits, end_fits, carry_amid, carry_at, carry_out}
use Rattle.fat_walk.proofs.Found.{file_from, are_bytes}
use borrow.Author.Rules.{rules}
use Rattle.fat_judge.proofs.judge_bytes.Goals as goal

pub seek-requires : goal.seek-requires
seek-requires c = record { chain_from = search (file_from, are_bytes); le_count = search rules }

pub goes_on-requires : goal.goes_on-requires
goes_on-requires c = record { amid = search (carry_amid, are_bytes); le_block_len = (search rules, search rules, search (end_fits, are_bytes)) }

pub overflow_add-index : goal.overflow_add-index
overflow_add-index c = search (node_fits, are_bytes)

pub returns-else-not-goes_on : goal.returns-else-not-goes_on
returns-else-not-goes_on c = search (carry_at, are_bytes)

pub returns-then-not-goes_on : goal.returns-then-not-goes_on
returns-then-not-goes_on c = search (carry_out, are_bytes)
