use native.Mathlib.Omega.{arith}
use Rattle.tree_look.proofs.Lives.{bucket_there}
use Rattle.tree_look.proofs.Lookups.{lookup_none, lookup_done_lem}
use Rattle.tree_look.proofs.lookup.Goals as goal

pub get-hit-requires : goal.get-hit-requires
get-hit-requires c = (bucket_there c.requires c.hash-b.result c.get_u32-first.result _ c.hash-b.ensures c.get_u32-first.ensures, omega (arith, c.requires.wide))

pub returns-then-hit-eq0 : goal.returns-then-hit-eq0
returns-then-hit-eq0 c = search (lookup_none)

pub returns-else-hit-eq0 : goal.returns-else-hit-eq0
returns-else-hit-eq0 c = search (lookup_done_lem)
