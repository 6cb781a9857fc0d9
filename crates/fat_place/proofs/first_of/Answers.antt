use Rattle.fat_place.proofs.Carving.{first_none, first_some}
use Rattle.fat_place.proofs.first_of.Goals as goal

pub returns-then-size-eq0 : goal.returns-then-size-eq0
returns-then-size-eq0 c = search (first_none)

pub returns-else-size-eq0 : goal.returns-else-size-eq0
returns-else-size-eq0 c = search (first_some)
