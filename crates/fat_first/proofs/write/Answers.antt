use Rattle.fat_first.proofs.Gives.{write_used, write_shut}
use Rattle.fat_first.proofs.write.Goals as goal

pub returns-then-not-in_use : goal.returns-then-not-in_use
returns-then-not-in_use c = search write_shut

pub returns : goal.returns
returns c = search write_used
