use Rattle.tree_table.proofs.Cases.{five_puts}
use Rattle.tree_table.proofs.put_key.Goals as goal

pub returns : goal.returns
returns c = five_puts c.args.table.now c.args.w c.args.x c.args.key.parent c.args.key.name0 c.args.key.name1 c.args.key.name2 c.args.key.name3 c.put_link.ensures c.put_link-2.ensures c.put_link-3.ensures c.put_link-4.ensures c.put_link-5.ensures
