use Rattle.fat_plan.proofs.Judges.{match_end, match_length, match_source, match_target}
use Rattle.fat_plan.proofs.judge.same_moves.Goals as goal
use Rattle.fat_plan.proofs.judge.same_moves.Goals.{then-plan-i-via-then-plan-i, then-plan-i-via-else-plan-i+then-plan-i-2}

pub returns-then-plan-k : goal.returns-then-plan-k
returns-then-plan-k c = search match_length

pub returns-then-plan-i : goal.returns-then-plan-i
returns-then-plan-i c = elim c.then-plan-i.branch [
  | then-plan-i-via-then-plan-i w ↦ match_source _ _ _ c.requires.2 _ c.loop-i-test.true w.if-plan-i.true
  | then-plan-i-via-else-plan-i+then-plan-i-2 w ↦ match_target _ _ _ c.requires.2 _ c.loop-i-test.true w.if-plan-i-2.true
]

pub returns : goal.returns
returns c = search match_end
