use Rattle.fat_step.proofs.Cases.{end_done}
use Rattle.fat_step.proofs.end_at.Goals as goal

pub returns : goal.returns
returns c = search end_done
