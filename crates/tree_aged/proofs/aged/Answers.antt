-- `tree_aged::aged` meets its contract.
use mathlib.Core.Path.{refl}
use Rattle.std.proofs.lemmas.Result.{err_from_is_err_and}
use Rattle.tree_promises.proofs.Gated.{tree_refused}
use Rattle.tree_aged.proofs.Public.{aged_ready, aged_passed}
use Rattle.tree_aged.proofs.aged.Goals as goal

pub returns-in_err-gate : goal.returns-in_err-gate
returns-in_err-gate c =
    let p = err_from_is_err_and c.from_residual.result c.from_residual.ensures.1 in
    rw (p.1, p.2) (tree_refused _ _ _ _ _ _ _ _ _ c.in_err-gate.ensures refl refl)

pub aged_open-requires : goal.aged_open-requires
aged_open-requires c = aged_ready _ _ _ _ _ _ _ c.in_ok-gate.ensures refl

pub returns : goal.returns
returns c = aged_passed _ _ _ _ _ _ _ c.in_ok-gate.ensures refl _ _ c.aged_open.ensures
