use native.Mathlib.Omega.{arith}
use mathlib.Core.Path.{◌∙◌}
use borrow.Author.Rules.{rules}
use Rattle.fat_place.proofs.Parts.{parts_room, parts_say}
use Rattle.fat_place.proofs.put_parts.Goals as goal

pub put-v-requires : goal.put-v-requires
put-v-requires c = record { n_bound = (search rules, search rules); waits = search rules; size_bound = omega arith }

pub put-requires : goal.put-requires
put-requires c = let room = parts_room _ _ _ _ _ _ _ _ _ _ _ _ c.requires.le_size.0 c.requires.le_size.2 _ _ c.saturating_sub.ensures c.saturating_sub-2.ensures c.min-before.ensures c.min-past.ensures _ _ _ _ _ c.put-v.ensures in record { n_bound = (search rules, room ∙ c.requires.n_bound.1); waits = c.put-v.ensures.waits; size_bound = omega arith }

pub returns : goal.returns
returns c =
    parts_say _ _ _ _ _ _ _ _ _ _ _ _ c.requires.le_size.0 c.requires.le_size.2 _ _ c.saturating_sub.ensures c.saturating_sub-2.ensures c.min-before.ensures c.min-past.ensures _ _ _ _ _ c.put-v.ensures _ _ _ _ _ c.put.ensures
