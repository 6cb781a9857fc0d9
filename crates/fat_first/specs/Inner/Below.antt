-- The map on the way, while it is built.
use Rattle.std.specs.Prelude.{cond, ℕ, ltb}
use Rattle.fat_node.specs.Entry.{Bytes}
use Rattle.fat_first.specs.Firsts.{first_at}

-- the files' first blocks below block b
unfoldable pub firsts_below : (n : ℕ) (t : Bytes) (b x : ℕ) → ℕ
firsts_below n t b x = cond (ltb x b) (first_at n t x) 0
