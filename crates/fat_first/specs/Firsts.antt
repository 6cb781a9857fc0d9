-- The map of files' first blocks of a table of n blocks (RULES 3.8).
use Rattle.std.specs.Prelude.{List, [], ◌∷◌, cond, ℕ, eqb}
use Rattle.map_bits.specs.Bits.{words_from, words_in}
use Rattle.fat_node.specs.Entry.{Bytes}
use Rattle.fat_node.specs.Node.{Run}
use Rattle.fat_table.specs.Counts.{nodes, starts}

-- 1 where a node of the list is at block x and starts a chain other than the free one, else 0
abbrev pub first_in : (l : List Run) (t : Bytes) (x : ℕ) → ℕ
first_in [] t x = 0
first_in (r ∷ l) t x = cond (eqb r.start x) (starts t x) (first_in l t x)

-- 1 where block x is a file's first, else 0
unfoldable pub first_at : (n : ℕ) (t : Bytes) (x : ℕ) → ℕ
first_at n t x = first_in (nodes n t) t x

-- a bit a block, set where the block is a file's first
unfoldable pub firsts_of : (n : ℕ) (t : Bytes) → List ℕ
firsts_of n t = words_from (words_in n) 0 (first_at n t)
