use Rattle.std.proofs.lemmas.Result.{err_from_is_err_and}
use Rattle.tree_change.proofs.Renames.{rename_file_may, link_file_may, rename_file_no, rename_file_done}
use Rattle.tree_change.proofs.rename_file.Goals as goal

pub returns-in_err-judge_rename_file : goal.returns-in_err-judge_rename_file
returns-in_err-judge_rename_file c =
    let p = err_from_is_err_and c.from_residual.result c.from_residual.ensures.1 in
    rw (p.1, p.2) (rename_file_no c.args.dir_hash.now c.args.dirs.now c.args.hash.now c.args.files.now c.args.list.now c.args.opened c.record_of-opens.result c.args.x c.args.parent c.args.name.now c.record_of-opens.ensures _ c.in_err-judge_rename_file.ensures)

pub unlink_file-requires : goal.unlink_file-requires
unlink_file-requires c = rename_file_may c.args.dir_hash.now c.args.dirs.now c.args.hash.now c.args.files.now c.args.list.now c.args.opened c.record_of-opens.result c.args.x c.args.parent c.args.name.now c.requires c.in_ok-judge_rename_file.ensures

pub link_file-requires : goal.link_file-requires
link_file-requires c = link_file_may c.args.dir_hash.now c.args.dirs.now c.args.hash.now c.args.files.now c.args.list.now c.args.opened c.record_of-opens.result c.args.x c.args.parent c.args.name.now c.requires c.in_ok-judge_rename_file.ensures c.unlink_file.ensures

pub returns : goal.returns
returns c =
    rename_file_done c.args.dir_hash.now c.args.dirs.now c.args.hash.now c.args.files.now c.args.list.now c.args.opened c.record_of-opens.result c.args.x c.args.parent c.args.name.now c.record_of-opens.ensures c.in_ok-judge_rename_file.ensures
    c.new-key.result c.new-key.ensures _ _ _ _ _ _ c.unlink_file.ensures c.link_file.ensures
