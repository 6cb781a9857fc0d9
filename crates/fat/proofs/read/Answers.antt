use Rattle.std.proofs.lemmas.Result.{err_from_is_err_and}
use Rattle.fat.proofs.Public.{call_refused, read_passed}
use Rattle.fat.proofs.read.Goals as goal

pub returns-in_err-gate : goal.returns-in_err-gate
returns-in_err-gate c =
    let p = err_from_is_err_and c.from_residual.result c.from_residual.ensures.1 in
    rw (p.1, p.2) (call_refused _ _ _ _ _ _ _ _ _ c.in_err-gate.ensures)

pub returns : goal.returns
returns c = read_passed _ _ _ _ _ _ _ _ _ _ _ _ c.in_ok-gate.ensures c.blocks-n.ensures c.read_sound.ensures
