-- `mukthiban_tested_tree_set_carried_file` meets its contract.
use Rattle.tree_sound.specs.Tables.{tables}
use Rattle.tree_look.proofs.Opens.{set_file}
use Rattle.mukthiban.proofs.tested_carried.mukthiban_tested_tree_set_carried_file.Goals as goal

pub returns : goal.returns
returns c =
    (_, c.into.ensures, set_file (tables c.args.dir_hash.now c.args.dir_table.now c.args.file_hash.now c.args.file_table.now) c.args.inode _ _ _ c.set_carried_file.ensures)
