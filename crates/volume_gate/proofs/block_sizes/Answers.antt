use Rattle.volume_gate.proofs.Cases.{block_told}
use Rattle.volume_gate.proofs.block_sizes.Goals as goal

pub returns : goal.returns
returns c = search block_told
