-- What the tiling says of the sizes of the nodes, by where they start.
use Rattle.std.specs.Prelude.{◌≡◌, List, [], ◌∷◌, ℕ, ◌+◌, ◌<◌, get_or}
use Rattle.fat_node.specs.Node.{NodeAt, prev_at}
use Rattle.fat_table.specs.Sound.{IsNode}

-- the numbers of a list, summed
unfoldable pub sum : List ℕ → ℕ
sum [] = 0
sum (x ∷ l) = x + sum l

-- the nodes of t are exactly where w is not 0, which is their size
pub record SizesAt (t : List ℕ) (n : ℕ) (w : List ℕ) : Type 0 where
  pub node : (b : ℕ) → 0 < get_or w b 0 → IsNode t n b × NodeAt t n b (get_or w b 0)
  pub mark : (b : ℕ) → IsNode t n b → 0 < get_or w b 0
  pub whole : sum w ≡ n

-- the head's index h names none or a node with no previous
abbrev pub HeadFits : List ℕ → List ℕ → ℕ → Type 0
HeadFits t w h = (j : ℕ) → h ≡ j + 1 → (0 < get_or w j 0) × (prev_at t j ≡ 0)
