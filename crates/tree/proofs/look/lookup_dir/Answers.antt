use mathlib.Core.Path.{refl}
use Rattle.tree_sound.specs.Tables.{tables, dirs}
use Rattle.tree_promises.proofs.Gated.{tree_refused, tree_passed}
use Rattle.tree_look.proofs.Lookups.{with_key}
use Rattle.tree.proofs.Gated.{tree_dirs}
use Rattle.tree.proofs.look.lookup_dir.Goals as goal

pub returns-in-Err : goal.returns-in-Err
returns-in-Err c = tree_refused _ _ _ _ _ _ _ _ _ c.in-Err.ensures refl refl

pub lookup-requires : goal.lookup-requires
lookup-requires c = tree_dirs _ _ _ _ _ _ _ refl c.in_default.ensures

pub returns : goal.returns
returns c =
    let s = tables c.args.dir_hash.now c.args.dir_table.now c.args.file_hash.now c.args.file_table.now in
    tree_passed _ _ _ _ _ _ _ _ c.in_default.ensures refl (with_key (dirs s) c.new.ensures c.lookup.ensures)
