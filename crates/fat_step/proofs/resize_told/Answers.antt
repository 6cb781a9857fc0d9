use Rattle.fat_walk.proofs.Found.{are_bytes}
use Rattle.fat_step.proofs.Steps.{resize_kept, recut_goes, recut_done}
use Rattle.fat_step.proofs.resize_told.Goals as goal

pub resize_step-requires-clause-recut : goal.resize_step-requires-clause-recut
resize_step-requires-clause-recut c = recut_goes _ _ _ _ _ c.in_ok-judge_resize.ensures _ _ _ c.in-Shrink.is

pub returns-in-Same : goal.returns-in-Same
returns-in-Same c = resize_kept _ _ c.requires.volume (search are_bytes) _ _ _ c.in_ok-judge_resize.ensures c.in-Same.is

pub returns-in-Shrink : goal.returns-in-Shrink
returns-in-Shrink c = recut_done _ _ _ _ _ c.in_ok-judge_resize.ensures _ _ _ c.in-Shrink.is _ c.resize_step.ensures
