-- `mukthiban_tree_open_file` meets its contract.
use Rattle.mukthiban.proofs.Asked.{open_other, open_asked}
use Rattle.tree_promises.specs.declared.Kind.TheVariants.{File}
use Rattle.mukthiban.proofs.opens.mukthiban_tree_open_file.Goals as goal

pub returns-then-kind-gt1 : goal.returns-then-kind-gt1
returns-then-kind-gt1 c =
    open_other File c.args.dir_hash.now c.args.dir_table.now c.args.file_hash.now c.args.file_table.now c.args.opened.now c.args.opens.now c.args.work.now c.args.inode c.args.kind _ _ c.from.ensures c.if-kind-gt1.true c.other_kind.ensures

pub returns : goal.returns
returns c =
    open_asked File c.args.dir_hash.now c.args.dir_table.now c.args.file_hash.now c.args.file_table.now c.args.opened.now c.args.opens.now c.args.work.now c.args.inode c.args.kind _ _ c.into.ensures c.if-kind-gt1.false _ c.want_of.ensures _ _ _ c.open_file.ensures
