use mathlib.Core.Path.{◌∙◌}
use Rattle.tree_table.proofs.Cases.{hash_at}
use Rattle.tree_table.proofs.get_hash.Goals as goal

pub returns : goal.returns
returns c = c.get_u32.ensures ∙ hash_at c.args.hash.now c.args.b
