use Rattle.tree_step.proofs.Links.{linked_file}
use Rattle.tree_step.proofs.link_file.Goals as goal

pub returns : goal.returns
returns c =
    λ name ek. linked_file c.args.hash.now _ c.args.x c.args.parent c.hash-b.result c.get_hash-first.result c.link_of-next.result name c.args.key ek c.hash-b.ensures c.get_hash-first.ensures c.put_hash.ensures
    c.args.dirs.now _ c.args.files.now _ c.link_of-next.ensures c.enter.ensures c.put_link.ensures
