-- `mukthiban_tested_tree_name` meets its contract.
use native.Mathlib.Omega.{arith}
use Rattle.tree_sound.specs.Tables.{tables}
use Rattle.mukthiban.proofs.Names.{inner_dir, inner_file}
use Rattle.mukthiban.proofs.name.mukthiban_tested_tree_name.Goals as goal

pub returns-then-kind-eq0 : goal.returns-then-kind-eq0
returns-then-kind-eq0 c =
    inner_dir (tables c.args.dir_hash.now c.args.dir_table.now c.args.file_hash.now c.args.file_table.now) c.args.kind c.args.inode _ _ c.if-kind-eq0.true (_, c.into.ensures.0, rw c.into.ensures.1 c.name_in.ensures)

pub returns-else-kind-eq0 : goal.returns-else-kind-eq0
returns-else-kind-eq0 c =
    inner_file (tables c.args.dir_hash.now c.args.dir_table.now c.args.file_hash.now c.args.file_table.now) c.args.kind c.args.inode _ _ (omega arith) (_, c.into-else-kind-eq0.ensures.0, rw c.into-else-kind-eq0.ensures.1 c.name_in-else-kind-eq0.ensures)
