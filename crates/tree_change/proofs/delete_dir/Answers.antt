use Rattle.std.proofs.lemmas.Result.{err_from_is_err_and}
use Rattle.tree_change.proofs.Changes.{unlink_dir_may, give_dir_may, delete_dir_no, delete_dir_done}
use Rattle.tree_change.proofs.delete_dir.Goals as goal

pub returns-in_err-judge_delete_dir : goal.returns-in_err-judge_delete_dir
returns-in_err-judge_delete_dir c =
    let p = err_from_is_err_and c.from_residual.result c.from_residual.ensures.1 in
    rw (p.1, p.2) (delete_dir_no c.args.hash.now c.args.dirs.now c.args.file_hash.now c.args.files.now c.args.list.now c.args.opened.now c.record_of-opens.result c.args.x c.record_of-opens.ensures _ c.in_err-judge_delete_dir.ensures)

pub unlink_dir-requires : goal.unlink_dir-requires
unlink_dir-requires c = unlink_dir_may c.args.hash.now c.args.dirs.now c.args.file_hash.now c.args.files.now c.args.list.now c.args.opened.now c.record_of-opens.result c.args.x c.requires c.in_ok-judge_delete_dir.ensures

pub give-requires : goal.give-requires
give-requires c = give_dir_may c.args.hash.now c.args.dirs.now c.args.file_hash.now c.args.files.now c.args.list.now c.args.opened.now c.record_of-opens.result c.args.x c.requires c.in_ok-judge_delete_dir.ensures c.unlink_dir.ensures

pub returns : goal.returns
returns c =
    delete_dir_done c.args.hash.now c.args.dirs.now c.args.file_hash.now c.args.files.now c.args.list.now c.args.opened.now c.record_of-opens.result c.args.x c.record_of-opens.ensures _ _ _ _ _ c.in_ok-judge_delete_dir.ensures c.unlink_dir.ensures c.give.ensures c.put_record.ensures
