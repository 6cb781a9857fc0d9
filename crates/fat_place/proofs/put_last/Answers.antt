use Rattle.fat_place.proofs.Parts.{last_laid, last_none}
use Rattle.fat_place.proofs.put_last.Goals as goal

pub returns-then-w-eq0 : goal.returns-then-w-eq0
returns-then-w-eq0 c = search (last_none)

pub returns : goal.returns
returns c = search (last_laid)
