use Rattle.fat_merge.proofs.Merging.{merge_long}
use Rattle.fat_plan.proofs.Judges.{cleared_is}
use Rattle.fat_plan.proofs.Finds.{plan_work, plan_room, plan_low, plan_is}
use Rattle.fat_plan.proofs.planner.plan_step.Goals as goal

pub list_blocks-k-requires : goal.list_blocks-k-requires
list_blocks-k-requires c = search (merge_long)

pub write_moves-requires : goal.write_moves-requires
write_moves-requires c = record { k_in_bounds = (search (plan_work), search (plan_room)); k_bound = search (plan_low) }

pub returns : goal.returns
returns c = (search (plan_is), search (cleared_is))
