use Rattle.kiosk_inner.proofs.Files.{count_begin, count_one, count_none, count_end, place_in}
use Rattle.kiosk_inner.proofs.count_live.Goals as goal
use Rattle.kiosk_inner.proofs.count_live.Goals.{then-work-n-eq0, else-work-n-eq0}

pub loop-y-init : goal.loop-y-init
loop-y-init c = search count_begin

pub bounds-work-n : goal.bounds-work-n
bounds-work-n c = search place_in

pub loop-y-preserved : goal.loop-y-preserved
loop-y-preserved c =
    elim c.if-work-n-eq0.branch [ then-work-n-eq0 w ↦ rw w.live-is (search count_one) | else-work-n-eq0 w ↦ rw w.live-is (search count_none) ]

pub returns : goal.returns
returns c = search count_end
