use borrow.Author.Rules.{rules}
use Rattle.std.proofs.lemmas.Result.{err_from_is_err_and}
use Rattle.fat_plan.proofs.Finds.{find_refused, find_goes, find_done_lem}
use Rattle.fat_plan.proofs.planner.find_sound.Goals as goal

pub plan_step-requires : goal.plan_step-requires
plan_step-requires c = record { volume = search rules; work_value = search rules; find_at = find_goes _ _ _ _ _ _ c.in_ok-found.ensures.0 }

pub returns-in_err-found : goal.returns-in_err-found
returns-in_err-found c =
    let p = err_from_is_err_and c.from_residual.result c.from_residual.ensures.1 in
    rw (p.1, p.2) (find_refused _ _ _ _ _ c.in_err-found.ensures.0, c.in_err-found.ensures.1)

pub returns : goal.returns
returns c = (find_done_lem _ _ _ _ _ _ c.in_ok-found.ensures.0 _ c.plan_step.ensures.0, c.plan_step.ensures.1)
