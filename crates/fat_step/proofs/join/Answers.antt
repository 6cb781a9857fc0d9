use Rattle.fat_step.proofs.Cases.{join_done}
use Rattle.fat_step.proofs.join.Goals as goal

pub returns : goal.returns
returns c = search join_done
