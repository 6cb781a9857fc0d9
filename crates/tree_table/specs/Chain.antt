-- A list through the words at one place of the entries, as the walks of the code meet it.
use Rattle.std.specs.Prelude.{List, [], ◌∷◌, Bool, true, false, ℕ, ◌+◌, ◌*◌, ◌≤◌, eqb, length}
use Rattle.words.specs.Word.{word}
use Rattle.links.specs.Links.{◌∈◌, Links}
use Rattle.links.specs.Change.{pick, walk}
use Rattle.tree_key.specs.Key.{same_key}
use Rattle.tree_table.specs.declared.Hit.{Hit}

-- the word at place `at` of entry x in the table t of width w
abbrev pub link_at : List ℕ → ℕ → ℕ → ℕ → ℕ
link_at t w at x = word t (x * w + at)

-- the list from x through those words; no table has more than 65,536 entries
unfoldable pub list_at : List ℕ → ℕ → ℕ → ℕ → List ℕ
list_at t w at x = walk (link_at t w at) 65536 x

-- it ends, and its entries lie in the table
pub record Ends (t : List ℕ) (w at x : ℕ) : Type 0 where
  pub links : Links (link_at t w at) x (list_at t w at x)
  pub inside : (y : ℕ) → y ∈ list_at t w at x → y * w + w ≤ length t

-- whether x stands in a list
abbrev pub member : ℕ → List ℕ → Bool
member x [] = false
member x (y ∷ ys) = pick (eqb y x) true (member x ys)

-- the first entry of the list with the key k (0: none), and how many were compared, n before this list: so from n = 0 the place of the match,
-- counted from 1, or the list's length
abbrev pub seek_in : (ℕ → List ℕ) → List ℕ → List ℕ → ℕ → Hit
seek_in key k [] n = record { inode = 0; compared = n }
seek_in key k (y ∷ ys) n = pick (same_key (key y) k) (record { inode = y; compared = n + 1 }) (seek_in key k ys (n + 1))
