use borrow.Author.Rules.{rules}
use Rattle.fat_walk.proofs.Found.{are_bytes}
use Rattle.fat_merge.proofs.Merging.{merge_long, marked_long, merge_reading}
use Rattle.fat_plan.proofs.Judges.{lowest_said, cleared_is}
use Rattle.fat_plan.proofs.judge.find_lowest.Goals as goal

pub mark-requires : goal.mark-requires
mark-requires c = record { volume = search rules; work_len = search (merge_long) }

pub first_fit-index-requires : goal.first_fit-index-requires
first_fit-index-requires c = search (merge_reading, are_bytes)

pub returns : goal.returns
returns c = (search (lowest_said, are_bytes), search (cleared_is, marked_long, are_bytes))
