use Rattle.std.proofs.lemmas.Result.{err_from_is_err_and}
use mathlib.Core.List.{[]}
use Rattle.tree_sound.specs.Tables.{tables}
use Rattle.tree_promises.specs.Calls.{alone_tests_of, empty_tests}
use Rattle.tree_promises.specs.Inner.Ready.{alone}
use Rattle.tree_promises.specs.declared.Kind.TheVariants.{Directory}
use Rattle.tree_judge.proofs.Judges.{given_front, dir_root, dir_dirs, dir_files, dir_go}
use Rattle.tree_judge.proofs.judge_delete_dir.Goals as goal
use Rattle.tree_judge.proofs.judge_delete_dir.Goals.{then-link_of-ne0-via-then-link_of-ne0, then-link_of-ne0-via-else-link_of-ne0+then-link_of-ne0-2}

pub returns-in_err-judge_delete : goal.returns-in_err-judge_delete
returns-in_err-judge_delete c =
    let p = err_from_is_err_and c.from_residual.result c.from_residual.ensures.1 in
    rw (p.1, p.2) (given_front (alone_tests_of (alone 40 c.args.dirs.now) c.args.opens c.args.x) (empty_tests Directory (tables c.args.hash.now c.args.dirs.now [] []) c.args.x) _ c.in_err-judge_delete.ensures)

pub returns-then-x-eq1 : goal.returns-then-x-eq1
returns-then-x-eq1 c = dir_root c.requires c.args.opens c.args.x c.in_ok-judge_delete.ensures c.if-x-eq1.true

pub returns-then-link_of-ne0 : goal.returns-then-link_of-ne0
returns-then-link_of-ne0 c =
    elim c.then-link_of-ne0.branch [
      | then-link_of-ne0-via-then-link_of-ne0 w ↦
          dir_dirs c.requires c.args.opens c.args.x c.in_ok-judge_delete.ensures c.link_of.result c.if-x-eq1.false c.link_of.ensures w.if-link_of-ne0.true
      | then-link_of-ne0-via-else-link_of-ne0+then-link_of-ne0-2 w ↦
          dir_files c.requires c.args.opens c.args.x c.in_ok-judge_delete.ensures w.link_of-else-link_of-ne0.result c.if-x-eq1.false w.link_of-else-link_of-ne0.ensures w.if-link_of-ne0-2.true
    ]

pub returns : goal.returns
returns c =
    dir_go c.requires c.args.opens c.args.x c.in_ok-judge_delete.ensures c.link_of.result c.link_of-else-link_of-ne0.result c.if-x-eq1.false c.link_of.ensures c.if-link_of-ne0.false
    c.link_of-else-link_of-ne0.ensures c.if-link_of-ne0-2.false
