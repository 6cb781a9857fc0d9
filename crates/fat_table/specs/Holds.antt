-- What it is that a table holds a layout.
use Rattle.std.specs.Prelude.{◌≡◌, List, [], ◌∷◌, ◌≢◌, ℕ, suc, ◌+◌, ◌*◌, length}
use Rattle.fat_node.specs.Entry.{Bytes, entry, get}
use Rattle.fat_node.specs.Node.{Run, start_entry, span_entry}
use Rattle.fat_table.specs.Layout.{Layout, Tiled}
use Rattle.fat_table.specs.Steps.{first}

-- the one, two or three entries of the node r stand in the table, with the index p for its previous and q for its next
pub record HoldsNode (t : Bytes) (r : Run) (p q : ℕ) : Type 0 where
  pub start : get t (r.start + 1) ≡ start_entry r p q
  pub second : r.size ≢ 1 → get t (r.start + 2) ≡ span_entry r
  pub last : r.size ≢ 1 → get t (r.start + r.size) ≡ span_entry r

-- every node of a chain stands in the table with its links; p is the index before the first
abbrev pub Laid : Bytes → List Run → ℕ → Type 0
Laid t [] p = Unit {0}
Laid t (r ∷ l) p = HoldsNode t r p (first l) × Laid t l (suc r.start)

-- the same of each of some chains
abbrev pub AllLaid : Bytes → List (List Run) → Type 0
AllLaid t [] = Unit {0}
AllLaid t (f ∷ fs) = Laid t f 0 × AllLaid t fs

-- a table of n blocks holds a layout
pub record Holds (n : ℕ) (t : Bytes) (L : Layout) : Type 0 where
  pub room : length t ≡ 8 * (n + 1)
  -- the head names the free chain
  pub head : get t 0 ≡ entry 0 (first L.free)
  -- each chain is laid
  pub free : Laid t L.free 0
  pub files : AllLaid t L.files
  -- the runs cover blocks 0 to n - 1, each once
  pub tiled : Tiled n L
