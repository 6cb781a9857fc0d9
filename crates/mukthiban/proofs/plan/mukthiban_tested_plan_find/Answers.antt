-- `mukthiban_tested_plan_find` meets its contract.
use Rattle.mukthiban.proofs.plan.mukthiban_tested_plan_find.Goals as goal

pub returns : goal.returns
returns c = (_, c.into.ensures.0, c.into.ensures.1, rw c.into.ensures.2 c.find_sound.ensures)
