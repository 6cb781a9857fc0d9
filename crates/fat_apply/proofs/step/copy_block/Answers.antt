use Rattle.fat_apply.proofs.Copies.{copied_sets}
use Rattle.fat_apply.proofs.step.copy_block.Goals as goal

pub returns : goal.returns
returns c = copied_sets _ _ _ _ c.requires.0 c.requires.1 _ c.copy_within.ensures.after
