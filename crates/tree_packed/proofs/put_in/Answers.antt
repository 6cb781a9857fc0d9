use Rattle.tree_packed.proofs.Moves.{went_up}
use Rattle.tree_packed.proofs.put_in.Goals as goal

pub returns : goal.returns
returns c = went_up _ _ _ _ c.requires.0 c.requires.1 c.copy_within.ensures.len c.copy_within.ensures.by_index
