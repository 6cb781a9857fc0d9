use Rattle.fat_walk.proofs.Found.{are_bytes}
use Rattle.kiosk_create.proofs.Fitting.{at_least, fit_begin, fit_end, fit_standing, fit_room, fit_here, fit_next, fit_less}
use Rattle.kiosk_create.proofs.find_fit.Goals as goal

pub loop-i-init : goal.loop-i-init
loop-i-init c = search (fit_begin, are_bytes)

pub size_at-requires : goal.size_at-requires
size_at-requires c = search (fit_standing)

pub returns-then-block_count-size_at : goal.returns-then-block_count-size_at
returns-then-block_count-size_at c = search (fit_here, at_least)

pub next_of-i-requires : goal.next_of-i-requires
next_of-i-requires c = search (fit_room)

pub loop-i-smaller : goal.loop-i-smaller
loop-i-smaller c = search (fit_less)

pub loop-i-preserved : goal.loop-i-preserved
loop-i-preserved c = search (fit_next)

pub returns : goal.returns
returns c = search (fit_end)
