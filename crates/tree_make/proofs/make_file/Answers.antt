use Rattle.std.proofs.lemmas.Result.{err_from_is_err_and}
use Rattle.tree_make.proofs.Makes.{new_file_may, make_file_no, make_file_done}
use Rattle.tree_make.proofs.make_file.Goals as goal

pub returns-in_err-judge_made : goal.returns-in_err-judge_made
returns-in_err-judge_made c =
    let p = err_from_is_err_and c.from_residual.result c.from_residual.ensures.1 in
    rw (p.1, p.2) (make_file_no c.args.dir_hash.now c.args.dirs.now c.args.hash.now c.args.files.now c.args.list.now c.args.opened.now c.args.parent c.args.name.now _ c.args.carried.now c.in_err-judge_made.ensures)

pub new_file-x-requires : goal.new_file-x-requires
new_file-x-requires c = new_file_may c.args.dir_hash.now c.args.dirs.now c.args.hash.now c.args.files.now c.args.list.now c.args.opened.now c.args.parent c.args.name.now c.requires c.in_ok-judge_made.ensures

pub returns : goal.returns
returns c =
    make_file_done c.args.dir_hash.now c.args.dirs.now c.args.hash.now c.args.files.now c.args.list.now c.args.opened.now c.args.parent c.args.name.now _ _ _ _ c.args.carried.now c.in_ok-judge_made.ensures c.new_file-x.ensures _ _ c.put_record.ensures
