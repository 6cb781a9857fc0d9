use Rattle.std.proofs.lemmas.Result.{err_from_is_err_and}
use Rattle.tree_change.proofs.Changes.{unlink_file_may, give_file_may, delete_file_no, delete_file_done}
use Rattle.tree_change.proofs.delete_file.Goals as goal

pub returns-in_err-judge_delete : goal.returns-in_err-judge_delete
returns-in_err-judge_delete c =
    let p = err_from_is_err_and c.from_residual.result c.from_residual.ensures.1 in
    rw (p.1, p.2) (delete_file_no c.args.dir_hash.now c.args.dirs.now c.args.hash.now c.args.files.now c.args.list.now c.args.opened.now c.record_of-opens.result c.args.x c.record_of-opens.ensures _ c.in_err-judge_delete.ensures)

pub unlink_file-requires : goal.unlink_file-requires
unlink_file-requires c = unlink_file_may c.args.dir_hash.now c.args.dirs.now c.args.hash.now c.args.files.now c.args.list.now c.args.opened.now c.record_of-opens.result c.args.x c.requires c.in_ok-judge_delete.ensures

pub give-requires : goal.give-requires
give-requires c = give_file_may c.args.dir_hash.now c.args.dirs.now c.args.hash.now c.args.files.now c.args.list.now c.args.opened.now c.record_of-opens.result c.args.x c.requires c.in_ok-judge_delete.ensures c.unlink_file.ensures

pub returns : goal.returns
returns c =
    delete_file_done c.args.dir_hash.now c.args.dirs.now c.args.hash.now c.args.files.now c.args.list.now c.args.opened.now c.record_of-opens.result c.args.x c.record_of-opens.ensures _ _ _ _ _ _ c.in_ok-judge_delete.ensures c.unlink_file.ensures c.give.ensures c.put_record.ensures
