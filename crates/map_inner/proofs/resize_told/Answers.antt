use mathlib.Core.Logic.{inl, inr}
use Rattle.fat_step.proofs.Steps.{recut_goes}
use Rattle.fat_walk.proofs.Found.{are_bytes}
use Rattle.map_inner.proofs.Kept.{resize_left, resize_same, shrink_cut, shrink_mapped, grow_take, grow_mapped}
use borrow.Author.Rules.{rules}
use Rattle.map_inner.proofs.resize_told.Goals as goal

pub returns-in_err-judge_resize : goal.returns-in_err-judge_resize
returns-in_err-judge_resize c = search (resize_left, are_bytes, rules, c.in_err-judge_resize.ensures)

pub give_rest-requires : goal.give_rest-requires
give_rest-requires c = record {
  volume = search rules;
  cut_at = shrink_cut _ _ c.requires.volume (search are_bytes) _ _ _ c.in_ok-judge_resize.ensures _ _ _ c.in-Shrink.is;
  map_value = search rules;
}

pub resize_step-requires : goal.resize_step-requires
resize_step-requires c = record { volume = search rules; recut = recut_goes _ _ _ _ _ c.in_ok-judge_resize.ensures _ _ _ (inl c.in-Shrink.is) }

pub take-requires : goal.take-requires
take-requires c = record {
  volume = search rules;
  take_at = grow_take _ _ c.requires.volume (search are_bytes) _ _ _ c.in_ok-judge_resize.ensures _ _ _ c.in-Grow.is;
  map_value = search rules;
}

pub resize_step-requires-in-Grow : goal.resize_step-requires-in-Grow
resize_step-requires-in-Grow c = record { volume = search rules; recut = recut_goes _ _ _ _ _ c.in_ok-judge_resize.ensures _ _ _ (inr c.in-Grow.is) }

pub returns-in-Same : goal.returns-in-Same
returns-in-Same c = resize_same _ _ c.requires.volume (search are_bytes) _ _ _ c.in_ok-judge_resize.ensures _ c.in-Same.is (search rules)

pub returns-in-Shrink : goal.returns-in-Shrink
returns-in-Shrink c = shrink_mapped _ _ c.requires.volume (search are_bytes) _ _ _ c.in_ok-judge_resize.ensures _ _ _ c.in-Shrink.is _ _ (search rules) (search rules)

pub returns-in-Grow : goal.returns-in-Grow
returns-in-Grow c = grow_mapped _ _ c.requires.volume (search are_bytes) _ _ _ c.in_ok-judge_resize.ensures _ _ _ c.in-Grow.is _ _ (search rules) (search rules)
