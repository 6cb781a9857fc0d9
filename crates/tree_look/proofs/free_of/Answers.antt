use mathlib.Core.Path.{◌∙◌}
use native.Mathlib.Omega.{arith}
use Rattle.tree_look.proofs.Lives.{first_fits}
use Rattle.tree_look.proofs.Listings.{removed_there, count_within, free_is}
use Rattle.tree_look.proofs.free_of.Goals as goal

pub get_u32-requires : goal.get_u32-requires
get_u32-requires c = omega (arith, first_fits c.requires, c.requires.wide)

pub get_u32-requires-2 : goal.get_u32-requires-2
get_u32-requires-2 c = omega (arith, first_fits c.requires, c.requires.wide)

pub get_u32-first-requires : goal.get_u32-first-requires
get_u32-first-requires c = omega (arith, first_fits c.requires, c.requires.wide)

pub count_list-requires : goal.count_list-requires
count_list-requires c = (removed_there c.requires c.get_u32-first.result c.get_u32-first.ensures, omega (arith, c.requires.wide))

pub overflow_sub-result : goal.overflow_sub-result
overflow_sub-result c = omega (arith, count_within c.requires c.index-count.result c.index-maximum.result (c.index-count.ensures ∙ c.get_u32.ensures) (c.index-maximum.ensures ∙ c.get_u32-2.ensures))

pub returns : goal.returns
returns c =
    free_is (c.requires) c.index-count.result c.index-maximum.result c.index-removed.result c.get_u32-first.result (c.index-count.ensures ∙ c.get_u32.ensures) (c.index-maximum.ensures ∙ c.get_u32-2.ensures) c.get_u32-first.ensures (c.index-removed.ensures ∙ c.count_list.ensures)
