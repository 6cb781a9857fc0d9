use borrow.Author.Rules.{rules}
use Rattle.fat_walk.proofs.Found.{are_bytes}
use Rattle.fat_merge.proofs.Merging.{merge_long, marked_long, merge_reading}
use Rattle.fat_plan.proofs.Judges.{open_said, cleared_is}
use Rattle.fat_plan.proofs.judge.is_open.Goals as goal

pub mark-requires : goal.mark-requires
mark-requires c = record { volume = search rules; work_len = search (merge_long) }

pub stands-open-requires : goal.stands-open-requires
stands-open-requires c = search (merge_reading, are_bytes)

pub returns : goal.returns
returns c = (search (open_said, are_bytes), search (cleared_is, marked_long, are_bytes))
