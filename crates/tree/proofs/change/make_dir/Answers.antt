use mathlib.Core.Path.{refl}
use Rattle.std.proofs.lemmas.Result.{err_from_is_err_and}
use Rattle.tree_promises.proofs.Gated.{packed_ready, packed_refused, packed_passed}
use Rattle.tree.proofs.change.make_dir.Goals as goal

pub returns-in_err-open_gate : goal.returns-in_err-open_gate
returns-in_err-open_gate c =
    let p = err_from_is_err_and c.from_residual.result c.from_residual.ensures.1 in
    rw (p.1, p.2) (packed_refused _ _ _ _ _ _ _ _ _ c.in_err-open_gate.ensures refl refl)

pub make_dir-requires : goal.make_dir-requires
make_dir-requires c = packed_ready _ _ _ _ _ c.in_ok-open_gate.ensures refl

pub returns : goal.returns
returns c = packed_passed _ _ _ _ _ _ _ _ c.in_ok-open_gate.ensures refl c.make_dir.ensures
