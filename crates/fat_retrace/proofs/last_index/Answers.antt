use native.Mathlib.Omega.{arith}
use Rattle.fat_retrace.proofs.Gives.{index_none, index_last}
use Rattle.fat_walk.proofs.Found.{last_standing}
use Rattle.fat_retrace.proofs.last_index.Goals as goal

pub returns-then-first-eq0 : goal.returns-then-first-eq0
returns-then-first-eq0 c = search index_none

pub last_of-requires : goal.last_of-requires
last_of-requires c = record { chain_from = c.requires; fact = c.if-first-eq0.false }

pub overflow_add-result : goal.overflow_add-result
overflow_add-result c = let s = last_standing _ _ _ _ c.requires.chain c.last_of.ensures in omega (arith, s.few, s.node.some, s.node.within)

pub returns-else-first-eq0 : goal.returns-else-first-eq0
returns-else-first-eq0 c = search index_last
