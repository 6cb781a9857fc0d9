-- What taking an entry of a table asks for: entry 0, and the entry to take, lie in the table.
use Rattle.std.specs.Prelude.{◌≡◌, List, ℕ, ◌+◌, ◌*◌, ◌/◌, ◌≤◌, ◌<◌, length}
use Rattle.tree_table.specs.Field.{field}
use Rattle.tree_table.specs.Steps.{taken}
use Rattle.tree_promises.specs.Inner.Ready.{alone}

pub record Takes (w : ℕ) (t : List ℕ) : Type 0 where
  pub first : w ≤ length t
  pub removed : field w t 0 0 * w + w ≤ length t
  pub few : field w t 0 0 ≡ 0 → field w t 0 1 < 65536
  pub inside : taken (alone w t) * w + w ≤ length t
  pub low : taken (alone w t) < length t / w
