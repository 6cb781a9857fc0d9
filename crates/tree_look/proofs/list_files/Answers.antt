use native.Mathlib.Omega.{arith}
use Rattle.tree_sound.specs.Tables.{tables}
use Rattle.tree_look.proofs.Listings.{files_end, files_listed}
use Rattle.tree_look.proofs.list_files.Goals as goal

pub list_children-requires : goal.list_children-requires
list_children-requires c = (files_end (tables c.args.dir_hash.now c.args.dir_table.now c.args.file_hash.now c.args.file_table.now) c.requires c.args.inode c.index-at.result c.live.ensures c.if-not-live.false c.index-at.ensures c.get_u32-first.result c.get_u32-first.ensures, omega arith)

pub returns : goal.returns
returns c = search (files_listed)
