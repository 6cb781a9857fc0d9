use Rattle.fat_walk.proofs.Found.{are_bytes}
use Rattle.fat_first.proofs.Gives.{create_shut, create_left, create_turnable, create_done_lem}
use borrow.Author.Rules.{rules}
use Rattle.fat_first.proofs.create.Goals as goal

pub returns-then-not-in_use : goal.returns-then-not-in_use
returns-then-not-in_use c = search (create_shut, are_bytes)

pub returns-in_err-first : goal.returns-in_err-first
returns-in_err-first c = search (create_left, are_bytes, rules, c.in_err-first.ensures)

pub turn_one-requires : goal.turn_one-requires
turn_one-requires c = search (create_turnable, are_bytes, c.in_ok-first.ensures)

pub returns : goal.returns
returns c = search (create_done_lem, are_bytes, c.in_ok-first.ensures)
