use native.Mathlib.Omega.{arith}
use borrow.Author.Rules.{rules}
use Rattle.fat_merge.proofs.Merging.{merge_long}
use Rattle.fat_plan.proofs.Judges.{accept_not, accept_long, accept_says, blocks_clear}
use Rattle.fat_plan.proofs.judge.accepts.Goals as goal

pub list_blocks-k-requires : goal.list_blocks-k-requires
list_blocks-k-requires c = search (merge_long)

pub bounds-plan-1 : goal.bounds-plan-1
bounds-plan-1 c = omega (arith, accept_long _ _ _ _ _ _ c.list_blocks-k.ensures _ c.same_moves-same.ensures c.if-same.true)

pub is_open-requires : goal.is_open-requires
is_open-requires c = record { volume = search rules; work_value = blocks_clear _ _ _ _ _ c.list_blocks-k.ensures _ c.clear.ensures; m_bound = search rules }

pub returns-then-same : goal.returns-then-same
returns-then-same c = (search (accept_says), search rules)

pub returns-else-same : goal.returns-else-same
returns-else-same c = (search (accept_not), search (blocks_clear))
