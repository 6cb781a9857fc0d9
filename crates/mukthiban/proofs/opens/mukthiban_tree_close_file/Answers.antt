-- `mukthiban_tree_close_file` meets its contract.
use Rattle.mukthiban.proofs.Asked.{close_other, close_asked}
use Rattle.tree_promises.specs.declared.Kind.TheVariants.{File}
use Rattle.mukthiban.proofs.opens.mukthiban_tree_close_file.Goals as goal

pub returns-then-kind-gt1 : goal.returns-then-kind-gt1
returns-then-kind-gt1 c =
    close_other File c.args.dir_hash.now c.args.dir_table.now c.args.file_hash.now c.args.file_table.now c.args.opened.now c.args.opens.now c.args.work.now c.args.inode c.args.kind _ _ c.from.ensures c.if-kind-gt1.true c.other_kind.ensures

pub returns : goal.returns
returns c =
    close_asked File c.args.dir_hash.now c.args.dir_table.now c.args.file_hash.now c.args.file_table.now c.args.opened.now c.args.opens.now c.args.work.now c.args.inode c.args.kind _ _ c.into.ensures c.if-kind-gt1.false _ c.want_of.ensures _ _ _ c.close_file.ensures
