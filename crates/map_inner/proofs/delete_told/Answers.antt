use Rattle.fat_walk.proofs.Found.{are_bytes}
use Rattle.map_inner.proofs.Kept.{delete_left, delete_mapped}
use borrow.Author.Rules.{rules}
use Rattle.map_inner.proofs.delete_told.Goals as goal

pub returns-in_err-last : goal.returns-in_err-last
returns-in_err-last c = search (delete_left, are_bytes, rules, c.in_err-last.ensures)

pub give-requires : goal.give-requires
give-requires c = record { volume = search rules; file = c.in_ok-last.ensures.may.file; map_value = search rules }

pub delete_step-requires : goal.delete_step-requires
delete_step-requires c = record { volume = search rules; delete_at = c.in_ok-last.ensures }

pub returns : goal.returns
returns c = delete_mapped _ _ c.requires.volume (search are_bytes) _ _ c.in_ok-last.ensures _ _ (search rules) (search rules)
