use mathlib.Core.Path.{refl}
use Rattle.std.proofs.lemmas.Result.{err_from_is_err_and}
use Rattle.tree_promises.proofs.Gated.{tree_ready, tree_refused, tree_passed}
use Rattle.tree.proofs.look.stat.Goals as goal

pub returns-in_err-gate : goal.returns-in_err-gate
returns-in_err-gate c =
    let p = err_from_is_err_and c.from_residual.result c.from_residual.ensures.1 in
    rw (p.1, p.2) (tree_refused _ _ _ _ _ _ _ _ _ c.in_err-gate.ensures refl refl)

pub stat-requires : goal.stat-requires
stat-requires c = tree_ready _ _ _ _ c.in_ok-gate.ensures refl

pub returns : goal.returns
returns c = tree_passed _ _ _ _ _ _ _ _ c.in_ok-gate.ensures refl c.stat.ensures
