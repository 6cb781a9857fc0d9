-- What the join of fragments says of the work list. A fragment is a stretch of a chain whose inner links have been joined. The place of its first node
-- names its last node, and that of the last the first, in the low 20 bits; the 12 bits above hold the sum of its sizes: at both ends, if it is below
-- 2,048; else, but for a single node, whose size the table has, the high part at the first node and the low part at the last.
use Rattle.std.specs.Prelude.{◌≡◌, List, ◌⊎◌, Bool, true, ℕ, ◌+◌, ◌/◌, ◌%◌, ◌<◌, ◌≤◌, length, get_or, set, Option, Some, None}
use Rattle.fat_node.specs.Node.{NodeAt, prev_at, next_at}
use Rattle.fat_table.specs.Sound.{IsNode, Path, Along, Covered, Counted, File, Sound}
use Rattle.fat_node.specs.declared.Counts.{Counts}
use Rattle.fat_ends.specs.declared.Tiles.{Tiles}
use Rattle.fat_ends.specs.Inner.Marks.{sum, SizesAt}

-- the low 20 bits of a word count so many
abbrev pub span : ℕ
span = 1048576

-- p at the first node h and q at the last node z say the sum s
pub data Packed (t : List ℕ) (n h z p q s : ℕ) : Type 0 where
  small : s < 2048 → p ≡ s → q ≡ s → Packed t n h z p q s
  one : h ≡ z → 2048 ≤ p → 2048 ≤ q → NodeAt t n h s → Packed t n h z p q s
  more : (h ≡ z → ⊥) → p ≡ 2048 + s / 2048 → q ≡ 2048 + s % 2048 → Packed t n h z p q s

-- after the tiling: g are the sizes; each node is a fragment
pub record Fresh (t : List ℕ) (n : ℕ) (g w : List ℕ) : Type 0 where
  pub none : (x : ℕ) → get_or g x 0 ≡ 0 → get_or w x 0 ≡ 0
  pub end : (x : ℕ) → 0 < get_or g x 0 → get_or w x 0 % span ≡ x + 1
  pub part : (x : ℕ) → 0 < get_or g x 0 → Packed t n x x (get_or w x 0 / span) (get_or w x 0 / span) (get_or g x 0)

-- the sizes stand somewhere, and the work list is fresh
abbrev pub Tile : List ℕ → ℕ → List ℕ → Type 0
Tile t n w = (g : List ℕ) × (SizesAt t n g × Fresh t n g w × (length g ≡ n))

-- node z ends a fragment, when the links of the nodes below b have been joined
abbrev pub Tail : List ℕ → ℕ → ℕ → ℕ → Type 0
Tail t n b z = IsNode t n z × ((b ≤ z) ⊎ (next_at t z ≡ 0))

-- the fragment from h to z; a is 1 at the nodes that have been joined to their previous, g the sums at the last nodes
pub record Frag (t : List ℕ) (n b : ℕ) (w a g : List ℕ) (h z : ℕ) : Type 0 where
  pub node : IsNode t n h
  pub head : get_or a h 0 ≡ 0
  pub last : get_or w h 0 % span ≡ z + 1
  pub first : get_or w z 0 % span ≡ h + 1
  pub path : Path (next_at t) h z
  pub packed : Packed t n h z (get_or w h 0 / span) (get_or w z 0 / span) (get_or g z 0)
  pub along : (m : ℕ) → Along t n (next_at t z) m → Along t n (h + 1) (get_or g z 0 + m)
  pub apart : (h ≡ z) ⊎ ((h < b) × (0 < next_at t h) × (get_or a z 0 ≡ 1))

-- the links of the nodes below b have been joined, k in number
pub record State (t : List ℕ) (n b : ℕ) (w : List ℕ) (k : ℕ) : Type 0 where
  pub g : List ℕ
  pub a : List ℕ
  pub long : length w ≡ n
  pub long_a : length a ≡ n
  pub long_g : length g ≡ n
  pub whole : sum g ≡ n
  pub joins : sum a ≡ k
  pub mark : (x : ℕ) → IsNode t n x → 0 < get_or w x 0
  pub node : (x : ℕ) → 0 < get_or w x 0 → IsNode t n x
  pub tail : (z : ℕ) → Tail t n b z → (h : ℕ) × Frag t n b w a g h z
  pub head : (h : ℕ) → IsNode t n h → get_or a h 0 ≡ 0 → (z : ℕ) × (Tail t n b z × Frag t n b w a g h z)
  pub reach : (x : ℕ) → IsNode t n x → (h : ℕ) × (IsNode t n h × (get_or a h 0 ≡ 0) × Path (next_at t) h x)
  pub joined : (x : ℕ) → 0 < get_or a x 0 → (p : ℕ) × (IsNode t n p × (p < b) × (prev_at t x ≡ p + 1) × (next_at t p ≡ x + 1) × (get_or a x 0 ≡ 1) × IsNode t n x)
  pub forth : (i j : ℕ) → IsNode t n i → i < b → next_at t i ≡ j + 1 → IsNode t n j × (prev_at t j ≡ i + 1) × (get_or a j 0 ≡ 1)

-- only the places where nodes start are not 0
abbrev pub AtNodes : List ℕ → ℕ → List ℕ → Type 0
AtNodes t n w = (x : ℕ) → 0 < get_or w x 0 → IsNode t n x

-- so on a sound table
abbrev pub LeftAs : List ℕ → ℕ → List ℕ → Option Counts → Type 0
LeftAs t n w (Some c) = AtNodes t n w
LeftAs t n w None = Unit {0}

-- k of the nodes below b have a previous
pub record Backs (t : List ℕ) (n b k : ℕ) : Type 0 where
  pub c : List ℕ
  pub long : length c ≡ n
  pub count : sum c ≡ k
  pub yes : (x : ℕ) → IsNode t n x → x < b → 0 < prev_at t x → get_or c x 0 ≡ 1
  pub only : (x : ℕ) → 0 < get_or c x 0 → IsNode t n x × (x < b) × (0 < prev_at t x) × (get_or c x 0 ≡ 1)

-- the places h and z of the work list have been written: each names the other, with the parts p and q
pub record TiedEnds (w w' : List ℕ) (h z p q : ℕ) : Type 0 where
  pub A : ℕ
  pub B : ℕ
  pub list : w' ≡ set (set w h A) z B
  pub A-end : A % span ≡ z + 1
  pub A-part : A / span ≡ p
  pub B-end : B % span ≡ h + 1
  pub B-part : B / span ≡ q

-- the node at b and its next, at j, name each other, and are in different fragments: from h to b, and from j to z
pub record Joinable (t : List ℕ) (n b : ℕ) (w : List ℕ) (j h z : ℕ) : Type 0 where
  pub k : ℕ
  pub state : State t n b w k
  pub node : IsNode t n b
  pub next : next_at t b ≡ j + 1
  pub mark : 0 < get_or w j 0
  pub back : prev_at t j ≡ b + 1
  pub first : get_or w b 0 % span ≡ h + 1
  pub last : get_or w j 0 % span ≡ z + 1
  pub ring : h ≡ j → ⊥

-- the link of the node at b has been joined too
abbrev pub Joined : List ℕ → ℕ → ℕ → List ℕ → List ℕ → Type 0
Joined t n b w w' = (k : ℕ) → State t n b w k → State t n (b + 1) w' (k + 1)

-- what the first pass tells
abbrev pub TiledAs : List ℕ → ℕ → List ℕ → Option Tiles → Type 0
TiledAs t n w (Some tiles) = Tile t n w × Backs t n n tiles.backs × Counted (File t n) n tiles.files
TiledAs t n w None = Covered t n → ⊥

-- all links are joined: as many as nodes have a previous
abbrev pub Linked : List ℕ → ℕ → List ℕ → Type 0
Linked t n w = (k : ℕ) × (State t n n w k × Backs t n n k)

-- what a join of the node at b answers: whether its link is joined; on a sound table it is
pub record JoinSays (t : List ℕ) (n b : ℕ) (w w' : List ℕ) (r : Bool) : Type 0 where
  pub yes : r ≡ true → Joined t n b w w'
  pub sound : Sound t n → r ≡ true

-- what the link of the node at b answers: the number of joins, none or one; or nothing, where the table is not sound
abbrev pub LinkSays : List ℕ → ℕ → ℕ → List ℕ → List ℕ → Option ℕ → Type 0
LinkSays t n b w w' (Some r) = (r ≤ 1) × ((k : ℕ) → State t n b w k → State t n (b + 1) w' (k + r))
LinkSays t n b w w' None = Sound t n → ⊥
