use Rattle.kiosk_inner.proofs.Files.{name_begin, name_in, name_inside, name_odd, name_on, name_end}
use Rattle.kiosk_inner.proofs.has_odd_name.Goals as goal

pub loop-y-init : goal.loop-y-init
loop-y-init c = search name_begin

pub bounds-work-n : goal.bounds-work-n
bounds-work-n c = search name_in

pub is_odd-requires : goal.is_odd-requires
is_odd-requires c = search name_inside

pub returns-then-is_odd : goal.returns-then-is_odd
returns-then-is_odd c = search name_odd

pub loop-y-preserved : goal.loop-y-preserved
loop-y-preserved c = search name_on

pub returns : goal.returns
returns c = search name_end
