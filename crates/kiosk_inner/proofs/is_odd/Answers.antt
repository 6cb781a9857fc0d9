use Rattle.kiosk_inner.proofs.Names.{odd_dead, odd_name}
use Rattle.kiosk_inner.proofs.is_odd.Goals as goal

pub returns-then-m-eq0 : goal.returns-then-m-eq0
returns-then-m-eq0 c = search odd_name

pub returns-else-m-eq0 : goal.returns-else-m-eq0
returns-else-m-eq0 c = search odd_dead
