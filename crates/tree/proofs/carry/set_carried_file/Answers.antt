use mathlib.Core.Path.{refl}
use Rattle.std.proofs.lemmas.Result.{err_from_is_err_and}
use Rattle.tree_promises.proofs.Gated.{tree_refused}
use Rattle.tree.proofs.Gated.{tree_files, set_file_passed}
use Rattle.tree.proofs.carry.set_carried_file.Goals as goal

pub returns-in_err-gate : goal.returns-in_err-gate
returns-in_err-gate c =
    let p = err_from_is_err_and c.from_residual.result c.from_residual.ensures.1 in
    rw (p.1, p.2) (tree_refused _ _ _ _ _ _ _ _ _ c.in_err-gate.ensures refl refl)

pub set_carried_file-requires : goal.set_carried_file-requires
set_carried_file-requires c = tree_files _ _ _ _ _ _ _ refl c.in_ok-gate.ensures

pub returns : goal.returns
returns c = set_file_passed _ _ _ _ _ _ _ _ _ _ _ c.in_ok-gate.ensures refl c.set_carried_file.ensures
