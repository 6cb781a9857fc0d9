use Rattle.tree_judge.proofs.Makes.{next_first, next_fresh}
use Rattle.tree_judge.proofs.next_entry.Goals as goal

pub returns-then-first-eq0 : goal.returns-then-first-eq0
returns-then-first-eq0 c = search (next_fresh)

pub returns-else-first-eq0 : goal.returns-else-first-eq0
returns-else-first-eq0 c = search (next_first)
