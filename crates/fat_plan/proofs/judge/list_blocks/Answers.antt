use Rattle.fat_walk.proofs.Found.{are_bytes}
use Rattle.fat_plan.proofs.Judges.{blocks_listed, blocks_in}
use Rattle.fat_plan.proofs.judge.list_blocks.Goals as goal

pub unwrap-requires : goal.unwrap-requires
unwrap-requires c = search (blocks_listed, are_bytes)

pub returns : goal.returns
returns c = search (blocks_in, are_bytes)
