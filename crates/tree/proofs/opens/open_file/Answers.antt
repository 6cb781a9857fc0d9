use mathlib.Core.Path.{refl}
use Rattle.std.proofs.lemmas.Result.{err_from_is_err_and}
use Rattle.tree_promises.proofs.Gated.{packed_refused}
use Rattle.tree.proofs.Gated.{opens_files, file_opened}
use Rattle.tree.proofs.opens.open_file.Goals as goal

pub returns-in_err-open_gate : goal.returns-in_err-open_gate
returns-in_err-open_gate c =
    let p = err_from_is_err_and c.from_residual.result c.from_residual.ensures.1 in
    rw (p.1, p.2) (packed_refused _ _ _ _ _ _ _ _ _ c.in_err-open_gate.ensures refl refl)

pub open-requires : goal.open-requires
open-requires c = opens_files _ _ _ _ _ _ _ refl _ _ c.in_ok-open_gate.ensures

pub returns : goal.returns
returns c = file_opened _ _ _ _ _ _ _ refl _ _ c.in_ok-open_gate.ensures _ _ _ _ _ c.open.ensures
