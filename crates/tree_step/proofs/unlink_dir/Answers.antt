use Rattle.tree_step.proofs.Links.{unlinked_dir}
use Rattle.tree_step.proofs.unlink_dir.Goals as goal

pub returns : goal.returns
returns c =
    unlinked_dir c.args.hash.now c.args.dirs.now _ _ _ c.args.x c.in_bucket-b.result c.in_parent-l.result c.in_bucket-b.ensures c.in_parent-l.ensures
    c.cut_bucket.ensures.0 c.cut_bucket.ensures.1 c.leave_dir.ensures
