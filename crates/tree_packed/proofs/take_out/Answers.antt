use Rattle.tree_packed.proofs.Moves.{came_down}
use Rattle.tree_packed.proofs.take_out.Goals as goal

pub returns : goal.returns
returns c = came_down _ _ c.requires.0 c.requires.1 c.copy_within.ensures.len c.copy_within.ensures.by_index
