-- `mukthiban_tested_tree_open_dir` meets its contract.
use Rattle.mukthiban.proofs.Asked.{inner_open_dir}
use Rattle.mukthiban.proofs.tested_opens.mukthiban_tested_tree_open_dir.Goals as goal

pub returns : goal.returns
returns c =
    inner_open_dir c.args.dir_hash.now c.args.dir_table.now c.args.file_hash.now c.args.file_table.now _ _ c.args.inode c.args.kind _ _ _ c.into.ensures c.want_of.ensures c.open.ensures
