use Rattle.fat_step.proofs.Cases.{split_done}
use Rattle.fat_step.proofs.split_at.Goals as goal

pub returns : goal.returns
returns c = search split_done
