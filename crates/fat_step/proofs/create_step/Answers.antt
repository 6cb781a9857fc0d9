use Rattle.fat_walk.proofs.Found.{are_bytes}
use Rattle.fat_step.proofs.Steps.{create_node, create_next, create_fits, create_stepped}
use Rattle.fat_step.proofs.create_step.Goals as goal

pub cut-requires : goal.cut-requires
cut-requires c = search (create_node, create_next, create_fits, are_bytes)

pub returns : goal.returns
returns c = search (create_stepped, are_bytes)
