use mathlib.Core.Path.{refl, sym}
use native.Mathlib.Omega.{arith}
use Rattle.std.proofs.lemmas.Result.{err_from_is_err_and}
use Rattle.tree_sound.specs.Tables.{tables, dirs}
use Rattle.tree_promises.specs.Calls.{held_tests_of}
use Rattle.tree_promises.specs.declared.Kind.TheVariants.{Directory}
use Rattle.tree_judge.proofs.Judges.{given_front}
use Rattle.tree_judge.proofs.Rows.{good_name, dir_named, dir_parent, dir_into, dir_exists, dir_free, other_key, above_ends, after_held}
use Rattle.tree_judge.proofs.judge_rename_dir.Goals as goal

pub returns-in_err-judge_held : goal.returns-in_err-judge_held
returns-in_err-judge_held c =
    let s = tables c.args.hash.now c.args.dirs.now c.args.file_hash.now c.args.files.now in
    let p = err_from_is_err_and c.from_residual.result c.from_residual.ensures.1 in
    rw (p.1, p.2) (given_front (held_tests_of (dirs s) c.args.opens c.args.x) (after_held Directory s c.args.x c.args.parent c.args.name.now) _ c.in_err-judge_held.ensures)

pub returns-then-not-is_legal : goal.returns-then-not-is_legal
returns-then-not-is_legal c =
    let s = tables c.args.hash.now c.args.dirs.now c.args.file_hash.now c.args.files.now in
    dir_named s _ _ _ _ c.in_ok-judge_held.ensures c.if-x-eq1.false (sym c.if-not-is_legal.ensures)

pub returns-then-not-live : goal.returns-then-not-live
returns-then-not-live c =
    let s = tables c.args.hash.now c.args.dirs.now c.args.file_hash.now c.args.files.now in
    dir_parent s _ _ _ _ c.in_ok-judge_held.ensures c.if-x-eq1.false (good_name _ c.if-not-is_legal.ensures) c.if-not-live.ensures refl

pub in_list-requires : goal.in_list-requires
in_list-requires c = (above_ends _ c.requires.0 c.args.parent (c.if-not-live.ensures.yes refl), omega arith)

pub returns-then-in_list : goal.returns-then-in_list
returns-then-in_list c =
    let s = tables c.args.hash.now c.args.dirs.now c.args.file_hash.now c.args.files.now in
    dir_into s _ _ _ _ c.in_ok-judge_held.ensures c.if-x-eq1.false (good_name _ c.if-not-is_legal.ensures) c.if-not-live.ensures refl c.in_list.ensures c.requires.0 c.if-in_list.true

pub returns-then-has_other : goal.returns-then-has_other
returns-then-has_other c =
    let s = tables c.args.hash.now c.args.dirs.now c.args.file_hash.now c.args.files.now in
    dir_exists s _ _ _ _ c.in_ok-judge_held.ensures c.if-x-eq1.false (good_name _ c.if-not-is_legal.ensures) c.if-not-live.ensures refl c.in_list.ensures c.requires.0 c.if-in_list.false (other_key (dirs s) c.args.x c.requires.1 c.has_other.ensures) c.if-has_other.true

pub returns : goal.returns
returns c =
    let s = tables c.args.hash.now c.args.dirs.now c.args.file_hash.now c.args.files.now in
    dir_free s _ _ _ _ c.in_ok-judge_held.ensures c.if-x-eq1.false (good_name _ c.if-not-is_legal.ensures) c.if-not-live.ensures refl c.in_list.ensures c.requires.0 c.if-in_list.false (other_key (dirs s) c.args.x c.requires.1 c.has_other.ensures) c.if-has_other.false
