use native.Mathlib.Omega.{arith}
use Rattle.fat_judge.proofs.Judges.{is_file}
use Rattle.fat_walk.proofs.Found.{file_from, are_bytes}
use Rattle.fat_judge.proofs.judge_delete.Goals as goal

pub last_of-requires : goal.last_of-requires
last_of-requires c = record { chain_from = search (file_from, is_file, are_bytes); fact = λ e. omega (arith, e) }
