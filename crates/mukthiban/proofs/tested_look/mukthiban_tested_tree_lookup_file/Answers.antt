-- `mukthiban_tested_tree_lookup_file` meets its contract.
use Rattle.tree_sound.specs.Tables.{tables, files}
use Rattle.tree_look.proofs.Lookups.{with_key}
use Rattle.mukthiban.proofs.tested_look.mukthiban_tested_tree_lookup_file.Goals as goal

pub returns : goal.returns
returns c = (_, c.into.ensures.0, rw (c.into.ensures.1, c.into.ensures.2) (with_key (files (tables c.args.dir_hash.now c.args.dir_table.now c.args.file_hash.now c.args.file_table.now)) c.new-key.ensures c.lookup.ensures))
