use Rattle.std.proofs.lemmas.Result.{err_from_is_err_and}
use Rattle.fat.proofs.Public.{call_ready, change_refused}
use Rattle.kiosk_create.proofs.Means.{kiosk_passed}
use Rattle.kiosk_create.proofs.create.Goals as goal

pub create_sound-requires : goal.create_sound-requires
create_sound-requires c = call_ready _ _ _ _ _ _ _ _ _ c.in_ok-change_gate.ensures c.blocks-n.ensures

pub returns-in_err-change_gate : goal.returns-in_err-change_gate
returns-in_err-change_gate c =
    let p = err_from_is_err_and c.from_residual.result c.from_residual.ensures.1 in
    rw (p.1, p.2) (change_refused _ _ _ _ _ _ _ _ _ c.in_err-change_gate.ensures)

pub returns : goal.returns
returns c = kiosk_passed _ _ _ _ _ _ _ _ _ _ c.in_ok-change_gate.ensures c.blocks-n.ensures c.create_sound.ensures
