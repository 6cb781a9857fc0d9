use Rattle.std.proofs.lemmas.Result.{err_from_is_err_and}
use Rattle.fat.proofs.Public.{call_ready, call_refused}
use Rattle.fat_plan.proofs.Public.{lent_fits, lent_long, lent_clear, find_passed}
use Rattle.fat_plan.proofs.find.Goals as goal

pub slice_bounds-find_sound-end : goal.slice_bounds-find_sound-end
slice_bounds-find_sound-end c = lent_fits _ _ _ _ _ _ _ _ _ c.in_ok-gate.ensures c.blocks-n.ensures

pub slice_bounds-find_sound-end-2 : goal.slice_bounds-find_sound-end-2
slice_bounds-find_sound-end-2 c = lent_long _ _ _ _ _ _ _ _ _ c.in_ok-gate.ensures c.blocks-n.ensures

pub find_sound-requires : goal.find_sound-requires
find_sound-requires c = record {
  volume = call_ready _ _ _ _ _ _ _ _ _ c.in_ok-gate.ensures c.blocks-n.ensures;
  work_value = lent_clear _ _ _ _ _ _ _ _ _ c.in_ok-gate.ensures c.blocks-n.ensures;
}

pub returns-in_err-gate : goal.returns-in_err-gate
returns-in_err-gate c =
    let p = err_from_is_err_and c.from_residual.result c.from_residual.ensures.1 in
    rw (p.1, p.2) (call_refused _ _ _ _ _ _ _ _ _ c.in_err-gate.ensures)

pub returns : goal.returns
returns c = find_passed _ _ _ _ _ _ _ _ c.in_ok-gate.ensures c.blocks-n.ensures _ _ _ _ c.find_sound.ensures.0 c.find_sound.ensures.1
