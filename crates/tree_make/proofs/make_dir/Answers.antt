use Rattle.std.proofs.lemmas.Result.{err_from_is_err_and}
use Rattle.tree_make.proofs.Makes.{new_dir_may, make_dir_no, make_dir_done}
use Rattle.tree_make.proofs.make_dir.Goals as goal

pub returns-in_err-judge_made : goal.returns-in_err-judge_made
returns-in_err-judge_made c =
    let p = err_from_is_err_and c.from_residual.result c.from_residual.ensures.1 in
    rw (p.1, p.2) (make_dir_no c.args.hash.now c.args.dirs.now c.args.file_hash.now c.args.files.now c.args.list.now c.args.opened.now c.args.parent c.args.name.now _ c.args.padding.now c.in_err-judge_made.ensures)

pub new_dir-x-requires : goal.new_dir-x-requires
new_dir-x-requires c = new_dir_may c.args.hash.now c.args.dirs.now c.args.file_hash.now c.args.files.now c.args.list.now c.args.opened.now c.args.parent c.args.name.now c.requires c.in_ok-judge_made.ensures

pub returns : goal.returns
returns c =
    make_dir_done c.args.hash.now c.args.dirs.now c.args.file_hash.now c.args.files.now c.args.list.now c.args.opened.now c.args.parent c.args.name.now _ _ _ c.args.padding.now c.in_ok-judge_made.ensures c.new_dir-x.ensures _ _ c.put_record.ensures
