use Rattle.std.proofs.lemmas.Result.{err_from_is_err_and}
use Rattle.fat.proofs.Public.{change_refused, create_passed}
use Rattle.fat.proofs.create.Goals as goal

pub returns-in_err-change_gate : goal.returns-in_err-change_gate
returns-in_err-change_gate c =
    let p = err_from_is_err_and c.from_residual.result c.from_residual.ensures.1 in
    rw (p.1, p.2) (change_refused _ _ _ _ _ _ _ _ _ c.in_err-change_gate.ensures)

pub returns : goal.returns
returns c = create_passed _ _ _ _ _ _ _ _ _ _ c.in_ok-change_gate.ensures c.blocks-n.ensures c.create_sound.ensures
