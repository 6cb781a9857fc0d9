use Rattle.fat_walk.proofs.Found.{are_bytes}
use Rattle.fat_step.proofs.Steps.{delete_last, head_node, head_low, delete_stepped}
use Rattle.fat_step.proofs.delete_step.Goals as goal

pub join-requires : goal.join-requires
join-requires c = search (delete_last, head_node, head_low, are_bytes)

pub returns : goal.returns
returns c = search (delete_stepped, are_bytes)
