-- The free map of a table of n blocks (RULES 3.7).
use Rattle.std.specs.Prelude.{◌≡◌, List, ℕ}
use Rattle.map_bits.specs.Bits.{words_from, words_in}
use Rattle.fat_node.specs.Entry.{Bytes}
use Rattle.fat_table.specs.Chain.{free_at}
use Rattle.fat_table.specs.Layout.{covers}

-- a bit a block, set where the block is in the free chain
unfoldable pub map_of : (n : ℕ) (t : Bytes) → List ℕ
map_of n t = words_from (words_in n) 0 (λ x. covers x (free_at n t))
