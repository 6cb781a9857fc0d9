use native.Mathlib.Omega.{arith}
use borrow.Author.Rules.{rules}
use Rattle.fat_place.proofs.Puts.{put_none, put_first, put_next}
use Rattle.fat_place.proofs.put.Goals as goal

pub returns-then-size-eq0 : goal.returns-then-size-eq0
returns-then-size-eq0 c = search (put_none)

pub overflow_add-next : goal.overflow_add-next
overflow_add-next c = omega arith

pub returns-then-w-eq0 : goal.returns-then-w-eq0
returns-then-w-eq0 c = search (put_first)

pub set_node-requires : goal.set_node-requires
set_node-requires c = record { n_bound = (search rules, search rules); le_size = (omega arith, omega arith); prev_le_n = (omega arith, omega arith) }

pub overflow_add-result : goal.overflow_add-result
overflow_add-result c = omega arith

pub returns : goal.returns
returns c = search (put_next)
