use mathlib.Core.Path.{refl}
use native.Mathlib.Omega.{arith}
use Rattle.fat_walk.proofs.Found.{are_bytes}
use Rattle.fat_apply.proofs.Steps.{step_long, step_movable, step_fits, step_window, step_within, step_volume, step_chain, step_delete, step_done}
use Rattle.fat_apply.proofs.step.apply_step.Goals as goal

pub bounds-plan-1 : goal.bounds-plan-1
bounds-plan-1 c = search (step_long, are_bytes)

pub move_blocks-requires : goal.move_blocks-requires
move_blocks-requires c = search (step_movable, are_bytes)

pub place_step-requires : goal.place_step-requires
place_step-requires c = search (step_window, step_within, are_bytes)

pub overflow_add-first_block : goal.overflow_add-first_block
overflow_add-first_block c = search (step_fits, are_bytes)

pub last_of-last-requires : goal.last_of-last-requires
last_of-last-requires c = record { chain_from = search (step_chain, are_bytes); fact = λ e. omega (arith, e) }

pub delete_step-requires : goal.delete_step-requires
delete_step-requires c = search (step_volume, step_delete, are_bytes)

pub returns : goal.returns
returns c = search (step_done, are_bytes)
