use borrow.Author.Rules.{rules}
use Rattle.fat_plan.proofs.Judges.{check_file, check_is, check_refused, check_done}
use Rattle.fat_plan.proofs.judge.check_sound.Goals as goal

pub returns-then-not-is_file : goal.returns-then-not-is_file
returns-then-not-is_file c = (search (check_file), search rules)

pub accepts-requires : goal.accepts-requires
accepts-requires c = search (check_is)

pub returns-then-not-accepts : goal.returns-then-not-accepts
returns-then-not-accepts c = (search (check_refused), search rules)

pub returns : goal.returns
returns c = (search (check_done), search rules)
