use Rattle.fat_judge.proofs.Judges.{is_file}
use Rattle.fat_judge.proofs.Reached.{carry_over}
use Rattle.fat_walk.proofs.Found.{are_bytes}
use Rattle.fat_judge.proofs.judge_carry.Goals as goal

pub returns-then-passes : goal.returns-then-passes
returns-then-passes c = search (carry_over, is_file, are_bytes)
