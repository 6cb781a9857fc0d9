-- What the walks of the tree's test promise: lists gone along, with marks left in the work list.
use Rattle.std.specs.Prelude.{◌≡◌, List, Option, Some, Bool, true, false, ℕ, ◌+◌, ◌≤◌, ◌<◌, length, get_or}
use Rattle.std.specs.Option.{is_some}
use Rattle.links.specs.Links.{◌∈◌, Links}

-- the mark of a removed entry; more than any bucket's number counted from 1, and any inode
abbrev pub gone : ℕ
gone = 65537

-- the mark of entry y, where the marks of its table begin at `off` in the work list
abbrev pub mark_at : List ℕ → ℕ → ℕ → ℕ
mark_at work off y = get_or work (off + y) 0

-- what stands at a place of the work list: the marks of the directories begin at 0
abbrev pub mark_of : List ℕ → ℕ → ℕ
mark_of work y = get_or work y 0

-- only `count` places from `off` on have changed
pub record Within (off count : ℕ) (work work' : List ℕ) : Type 0 where
  pub size : length work' ≡ length work
  pub before : (j : ℕ) → j < off → get_or work' j 0 ≡ get_or work j 0
  pub behind : (j : ℕ) → off + count ≤ j → get_or work' j 0 ≡ get_or work j 0

-- the list lies below count, at entries that have no mark
abbrev pub Unmarked : ℕ → (ℕ → ℕ) → List ℕ → Type 0
Unmarked count W xs = (y : ℕ) → y ∈ xs → (y < count) × (W y ≡ 0)

-- the marks W' are W with m at the entries of xs
pub record Marked (W W' : ℕ → ℕ) (m : ℕ) (xs : List ℕ) : Type 0 where
  pub marked : (y : ℕ) → y ∈ xs → W' y ≡ m
  pub others : (y : ℕ) → (y ∈ xs → ⊥) → W' y ≡ W y

-- what a walk along a list answers: that it ends at free entries, which now have its mark; or that no such list starts there
pub record ListMarked (nx : ℕ → ℕ) (count first m off : ℕ) (work work' : List ℕ) (r : Bool) : Type 0 where
  pub good : r ≡ true → (xs : List ℕ) × Links nx first xs × Unmarked count (mark_at work off) xs × Marked (mark_at work off) (mark_at work' off) m xs
  pub bad : r ≡ false → (xs : List ℕ) → Links nx first xs → Unmarked count (mark_at work off) xs → ⊥
  pub within : Within off count work work'

-- the same where the walk answers the list's length, or none
pub record ListCounted (nx : ℕ → ℕ) (count first m off : ℕ) (work work' : List ℕ) (r : Option ℕ) : Type 0 where
  pub listed : ListMarked nx count first m off work work' (is_some r)
  pub size : (n : ℕ) → r ≡ Some n → (xs : List ℕ) → Links nx first xs → n ≡ length xs
