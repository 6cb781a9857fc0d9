use mathlib.Core.Path.{◌∙◌}
use Rattle.tree_table.proofs.Cases.{hash_put}
use Rattle.tree_table.proofs.put_hash.Goals as goal

pub returns : goal.returns
returns c = c.put_u32.ensures ∙ hash_put c.args.hash.now c.args.b c.args.x
