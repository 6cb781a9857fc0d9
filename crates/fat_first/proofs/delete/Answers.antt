use Rattle.fat_walk.proofs.Found.{are_bytes}
use Rattle.fat_first.proofs.Gives.{delete_shut, delete_left, delete_turnable, delete_done_lem}
use borrow.Author.Rules.{rules}
use Rattle.fat_first.proofs.delete.Goals as goal

pub returns-then-not-in_use : goal.returns-then-not-in_use
returns-then-not-in_use c = search (delete_shut, are_bytes)

pub returns-in_err-delete_told : goal.returns-in_err-delete_told
returns-in_err-delete_told c = search (delete_left, are_bytes, rules, c.in_err-delete_told.ensures)

pub turn_one-requires : goal.turn_one-requires
turn_one-requires c = search (delete_turnable, are_bytes, c.in_ok-delete_told.ensures)

pub returns : goal.returns
returns c = search (delete_done_lem, are_bytes, c.in_ok-delete_told.ensures)
