use Rattle.volume_gate.proofs.Cases.{tree_told}
use Rattle.volume_gate.proofs.tree_sizes.Goals as goal

pub returns : goal.returns
returns c = search tree_told
