use Rattle.std.proofs.lemmas.Result.{err_from_is_err_and}
use Rattle.fat.proofs.Public.{call_ready, call_data, change_refused}
use Rattle.fat_plan.proofs.Public.{lent_fits, lent_long, lent_clear}
use Rattle.fat_apply.proofs.Public.{apply_passed}
use Rattle.fat_apply.proofs.apply.Goals as goal

pub slice_bounds-apply_sound-end : goal.slice_bounds-apply_sound-end
slice_bounds-apply_sound-end c = lent_fits _ _ _ _ _ _ _ _ _ c.in_ok-change_gate.ensures c.blocks-n.ensures

pub slice_bounds-apply_sound-end-2 : goal.slice_bounds-apply_sound-end-2
slice_bounds-apply_sound-end-2 c = lent_long _ _ _ _ _ _ _ _ _ c.in_ok-change_gate.ensures c.blocks-n.ensures

pub apply_sound-requires : goal.apply_sound-requires
apply_sound-requires c = record {
  volume = call_ready _ _ _ _ _ _ _ _ _ c.in_ok-change_gate.ensures c.blocks-n.ensures;
  fact = call_data _ _ _ _ _ _ _ _ _ c.in_ok-change_gate.ensures c.blocks-n.ensures;
  work_value = lent_clear _ _ _ _ _ _ _ _ _ c.in_ok-change_gate.ensures c.blocks-n.ensures;
}

pub returns-in_err-change_gate : goal.returns-in_err-change_gate
returns-in_err-change_gate c =
    let p = err_from_is_err_and c.from_residual.result c.from_residual.ensures.1 in
    rw (p.1, p.2) (change_refused _ _ _ _ _ _ _ _ _ c.in_err-change_gate.ensures)

pub returns : goal.returns
returns c =
    apply_passed _ _ _ _ _ _ _ _ c.in_ok-change_gate.ensures c.blocks-n.ensures _ _ _ _ c.apply_sound.ensures.0 c.apply_sound.ensures.1
