use borrow.Author.Rules.{rules}
use Rattle.fat_walk.proofs.Found.{are_bytes}
use Rattle.kiosk_create.proofs.Kiosk.{none_asked, none_fit, fit_opens, fit_inside, fit_done}
use Rattle.kiosk_create.proofs.create_sound.Goals as goal

pub returns-then-block_count-eq0 : goal.returns-then-block_count-eq0
returns-then-block_count-eq0 c = search (none_asked)

pub returns-then-index-eq0 : goal.returns-then-index-eq0
returns-then-index-eq0 c = search (none_fit)

pub place_step-requires : goal.place_step-requires
place_step-requires c = search (fit_opens, fit_inside, are_bytes, rules)

pub returns : goal.returns
returns c = search (fit_done)
