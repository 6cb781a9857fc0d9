use Rattle.fat_walk.proofs.Found.{are_bytes}
use Rattle.fat_first.proofs.Gives.{resize_shut, resize_first}
use Rattle.fat_first.proofs.resize.Goals as goal

pub returns-then-not-in_use : goal.returns-then-not-in_use
returns-then-not-in_use c = search (resize_shut, are_bytes)

pub returns : goal.returns
returns c = search (resize_first, are_bytes)
