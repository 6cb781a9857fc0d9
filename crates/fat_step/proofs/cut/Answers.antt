use Rattle.fat_step.proofs.Cases.{cut_whole, cut_part}
use Rattle.fat_step.proofs.cut.Goals as goal

pub returns-then-m-size_at : goal.returns-then-m-size_at
returns-then-m-size_at c = search cut_whole

pub returns-else-m-size_at : goal.returns-else-m-size_at
returns-else-m-size_at c = search cut_part
