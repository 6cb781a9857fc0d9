use mathlib.Core.Path.{refl}
use Rattle.std.proofs.lemmas.Result.{err_from_is_err_and}
use Rattle.tree_promises.proofs.Gated.{tree_refused}
use Rattle.tree.proofs.Gated.{tree_dirs, tree_files, name_answered}
use Rattle.tree.proofs.name.name_answer.Goals as goal

pub returns-in_err-gate : goal.returns-in_err-gate
returns-in_err-gate c =
    let p = err_from_is_err_and c.from_residual.result c.from_residual.ensures.1 in
    rw (p.1, p.2) (tree_refused _ _ _ _ _ _ _ _ _ c.in_err-gate.ensures refl refl)

pub answer_in-requires : goal.answer_in-requires
answer_in-requires c = tree_dirs _ _ _ _ _ _ _ refl c.in_ok-gate.ensures

pub answer_in-requires-in-File : goal.answer_in-requires-in-File
answer_in-requires-in-File c = tree_files _ _ _ _ _ _ _ refl c.in_ok-gate.ensures

pub returns-in-Directory : goal.returns-in-Directory
returns-in-Directory c = name_answered _ _ _ _ _ _ _ c.in_ok-gate.ensures refl c.in-Directory.is _ c.answer_in.ensures

pub returns-in-File : goal.returns-in-File
returns-in-File c = name_answered _ _ _ _ _ _ _ c.in_ok-gate.ensures refl c.in-File.is _ c.answer_in-in-File.ensures
