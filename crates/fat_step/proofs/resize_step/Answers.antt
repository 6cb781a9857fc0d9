use Rattle.fat_walk.proofs.Found.{are_bytes}
use Rattle.fat_step.proofs.Steps.{resize_last, head_node, head_low, resize_node, resize_next, recut_part, resize_fits, resize_stepped}
use Rattle.fat_step.proofs.resize_step.Goals as goal

pub join-requires : goal.join-requires
join-requires c = search (resize_last, head_node, head_low, are_bytes)

pub cut-requires : goal.cut-requires
cut-requires c = record { standing = search (resize_node, are_bytes); standing_at = search (resize_next, are_bytes); le_m = (search (recut_part), search (resize_fits, are_bytes)) }

pub returns : goal.returns
returns c = search (resize_stepped, are_bytes)
