use Rattle.tree_table.proofs.Cases.{gave}
use Rattle.tree_table.proofs.give.Goals as goal

pub returns : goal.returns
returns c = gave c.args.w c.args.table.now _ _ _ c.args.x c.link_of-first.result c.link_of-first.ensures c.copy_entry.ensures c.put_link.ensures c.put_link-2.ensures
