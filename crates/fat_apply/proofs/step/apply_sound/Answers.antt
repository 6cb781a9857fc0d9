use Rattle.fat_walk.proofs.Found.{are_bytes}
use Rattle.std.proofs.lemmas.Result.{err_from_is_err_and}
use Rattle.fat_apply.proofs.Steps.{apply_refused, apply_may, apply_done_lem}
use Rattle.fat_apply.proofs.step.apply_sound.Goals as goal

pub returns-in_err-check_sound : goal.returns-in_err-check_sound
returns-in_err-check_sound c =
    let p = err_from_is_err_and c.from_residual.result c.from_residual.ensures.1 in
    rw (p.1, p.2) (apply_refused _ _ _ _ _ _ _ c.in_err-check_sound.ensures.0, c.in_err-check_sound.ensures.1)

pub apply_step-requires : goal.apply_step-requires
apply_step-requires c = record { volume = c.requires.volume; fact = c.requires.fact; may_check = apply_may _ _ _ _ c.in_ok-check_sound.ensures.0 c.requires.volume (search are_bytes) }

pub returns : goal.returns
returns c =
    (apply_done_lem _ _ _ _ _ _ (apply_may _ _ _ _ c.in_ok-check_sound.ensures.0 c.requires.volume (search are_bytes)) _ _ _ c.apply_step.ensures, c.in_ok-check_sound.ensures.1)
