use Rattle.std.proofs.lemmas.Result.{err_from_is_err_and}
use Rattle.tree_change.proofs.Renames.{rename_dir_may, link_dir_may, rename_dir_no, rename_dir_done}
use Rattle.tree_change.proofs.rename_dir.Goals as goal

pub returns-in_err-judge_rename_dir : goal.returns-in_err-judge_rename_dir
returns-in_err-judge_rename_dir c =
    let p = err_from_is_err_and c.from_residual.result c.from_residual.ensures.1 in
    rw (p.1, p.2) (rename_dir_no c.args.hash.now c.args.dirs.now c.args.file_hash.now c.args.files.now c.args.list.now c.args.opened c.record_of-opens.result c.args.x c.args.parent c.args.name.now c.record_of-opens.ensures _ c.in_err-judge_rename_dir.ensures)

pub unlink_dir-requires : goal.unlink_dir-requires
unlink_dir-requires c = rename_dir_may c.args.hash.now c.args.dirs.now c.args.file_hash.now c.args.files.now c.args.list.now c.args.opened c.record_of-opens.result c.args.x c.args.parent c.args.name.now c.requires c.in_ok-judge_rename_dir.ensures

pub link_dir-requires : goal.link_dir-requires
link_dir-requires c = link_dir_may c.args.hash.now c.args.dirs.now c.args.file_hash.now c.args.files.now c.args.list.now c.args.opened c.record_of-opens.result c.args.x c.args.parent c.args.name.now c.requires c.in_ok-judge_rename_dir.ensures c.unlink_dir.ensures

pub returns : goal.returns
returns c =
    rename_dir_done c.args.hash.now c.args.dirs.now c.args.file_hash.now c.args.files.now c.args.list.now c.args.opened c.record_of-opens.result c.args.x c.args.parent c.args.name.now c.record_of-opens.ensures c.in_ok-judge_rename_dir.ensures
    c.new-key.result c.new-key.ensures _ _ _ _ c.unlink_dir.ensures c.link_dir.ensures
