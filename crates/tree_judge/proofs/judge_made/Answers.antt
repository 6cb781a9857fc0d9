use mathlib.Core.List.{[]}
use Rattle.std.proofs.lemmas.Result.{err_from_is_err_and}
use Rattle.tree_sound.specs.Tables.{tables}
use Rattle.tree_judge.proofs.Makes.{made_refused, made_full}
use Rattle.tree_judge.proofs.judge_made.Goals as goal

pub returns-in_err-judge_make : goal.returns-in_err-judge_make
returns-in_err-judge_make c =
    let s = tables c.args.dir_hash.now c.args.dirs.now [] [] in
    let p = err_from_is_err_and c.from_residual.result c.from_residual.ensures.1 in
    rw (p.1, p.2) (made_refused s _ c.args.hash.now _ _ _ _ _ _ c.in_err-judge_make.ensures)

pub returns-then-is_full : goal.returns-then-is_full
returns-then-is_full c =
    let s = tables c.args.dir_hash.now c.args.dirs.now [] [] in
    made_full s _ c.args.hash.now _ _ _ _ _ c.in_ok-judge_make.ensures _ c.next_entry-x.ensures _ c.is_full.ensures c.if-is_full.true
