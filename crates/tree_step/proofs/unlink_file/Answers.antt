use Rattle.tree_step.proofs.Links.{unlinked_file}
use Rattle.tree_step.proofs.unlink_file.Goals as goal

pub returns : goal.returns
returns c =
    unlinked_file c.args.hash.now c.args.dirs.now c.args.files.now _ _ _ _ c.args.x c.in_bucket-b.result c.in_parent-l.result c.in_bucket-b.ensures c.in_parent-l.ensures
    c.cut_bucket.ensures.0 c.cut_bucket.ensures.1 c.leave_file.ensures.0 c.leave_file.ensures.1
