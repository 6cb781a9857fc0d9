-- `mukthiban_tested_tree_open_file` meets its contract.
use Rattle.mukthiban.proofs.Asked.{inner_open_file}
use Rattle.mukthiban.proofs.tested_opens.mukthiban_tested_tree_open_file.Goals as goal

pub returns : goal.returns
returns c =
    inner_open_file c.args.dir_hash.now c.args.dir_table.now c.args.file_hash.now c.args.file_table.now _ _ c.args.inode c.args.kind _ _ _ c.into.ensures c.want_of.ensures c.open.ensures
