use mathlib.Core.Path.{refl, sym}
use Rattle.std.proofs.lemmas.Result.{err_from_is_err_and}
use Rattle.tree_sound.specs.Tables.{tables, files}
use Rattle.tree_promises.specs.Calls.{held_tests_of}
use Rattle.tree_promises.specs.declared.Kind.TheVariants.{File}
use Rattle.tree_judge.proofs.Judges.{given_front}
use Rattle.tree_judge.proofs.Rows.{good_name, file_named, file_parent, file_exists, other_key, after_held}
use Rattle.tree_judge.proofs.judge_rename_file.Goals as goal

pub returns-in_err-judge_held : goal.returns-in_err-judge_held
returns-in_err-judge_held c =
    let s = tables c.args.dir_hash.now c.args.dirs.now c.args.hash.now c.args.files.now in
    let p = err_from_is_err_and c.from_residual.result c.from_residual.ensures.1 in
    rw (p.1, p.2) (given_front (held_tests_of (files s) c.args.opens c.args.x) (after_held File s c.args.x c.args.parent c.args.name.now) _ c.in_err-judge_held.ensures)

pub returns-then-not-is_legal : goal.returns-then-not-is_legal
returns-then-not-is_legal c =
    let s = tables c.args.dir_hash.now c.args.dirs.now c.args.hash.now c.args.files.now in
    file_named s _ _ _ _ c.in_ok-judge_held.ensures (sym c.if-not-is_legal.ensures)

pub returns-then-not-live : goal.returns-then-not-live
returns-then-not-live c =
    let s = tables c.args.dir_hash.now c.args.dirs.now c.args.hash.now c.args.files.now in
    file_parent s _ _ _ _ c.in_ok-judge_held.ensures (good_name _ c.if-not-is_legal.ensures) c.if-not-live.ensures refl

pub returns-then-has_other : goal.returns-then-has_other
returns-then-has_other c =
    let s = tables c.args.dir_hash.now c.args.dirs.now c.args.hash.now c.args.files.now in
    file_exists s _ _ _ _ c.in_ok-judge_held.ensures (good_name _ c.if-not-is_legal.ensures) c.if-not-live.ensures refl (other_key (files s) c.args.x c.requires.1 c.has_other.ensures) c.if-has_other.true
