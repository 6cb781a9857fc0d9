use Rattle.fat_judge.proofs.Judges.{is_file}
use Rattle.fat_judge.proofs.Rooms.{list_any, list_short}
use Rattle.fat_walk.proofs.Found.{file_from, are_bytes}
use borrow.Author.Rules.{rules}
use Rattle.fat_judge.proofs.judge_list.Goals as goal

pub returns-then-n-room : goal.returns-then-n-room
returns-then-n-room c = search (list_any, is_file, are_bytes)

pub seek-requires : goal.seek-requires
seek-requires c = record { chain_from = search (file_from, is_file, are_bytes); le_count = search rules }

pub returns-in-Within : goal.returns-in-Within
returns-in-Within c = search (list_short, is_file, are_bytes)
