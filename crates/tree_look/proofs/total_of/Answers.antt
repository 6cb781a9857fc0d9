use mathlib.Core.Path.{◌∙◌}
use native.Mathlib.Omega.{arith}
use Rattle.tree_look.proofs.Lives.{first_fits}
use Rattle.tree_look.proofs.Listings.{total_is}
use Rattle.tree_look.proofs.total_of.Goals as goal

pub get_u32-requires : goal.get_u32-requires
get_u32-requires c = omega (arith, first_fits c.requires, c.requires.wide)

pub overflow_sub-result : goal.overflow_sub-result
overflow_sub-result c = omega (arith, (total_is c.requires c.index.result (c.index.ensures ∙ c.get_u32.ensures)).0)

pub returns : goal.returns
returns c = (total_is c.requires c.index.result (c.index.ensures ∙ c.get_u32.ensures)).1
