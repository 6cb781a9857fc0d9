-- Keys that differ within a bucket, and what the test of the long buckets promises.
use Rattle.std.specs.Prelude.{◌≡◌, List, Bool, true, false, ℕ, ◌+◌, ◌/◌, ◌≤◌, ◌<◌, ltb, length}
use Rattle.links.specs.Links.{◌∈◌, Links}
use Rattle.tree_table.specs.Field.{start, collision_field, field}
use Rattle.tree_table.specs.View.{key_at}
use Rattle.tree_table.specs.Chain.{link_at, list_at, Ends}
use Rattle.tree_marks.specs.Inner.Marks.{gone, mark_at, Within}
use Rattle.tree_marks.specs.Inner.Gather.{bucket_at}

-- no entry behind y in its bucket has y's key
abbrev pub Apart : List ℕ → ℕ → ℕ → Type 0
Apart t w y = (z : ℕ) → z ∈ list_at t w (start w collision_field) (link_at t w (start w collision_field) y) → key_at (field w t) z ≡ key_at (field w t) y → ⊥

-- so it is of every entry of the bucket from `first` on
pub record AllApart (t : List ℕ) (w first : ℕ) : Type 0 where
  pub each : (y : ℕ) → y ∈ list_at t w (start w collision_field) first → Apart t w y

-- the keys of a bucket of at most this many entries are compared pair by pair
abbrev pub few : ℕ
few = 64

-- whether a bucket is long: its keys are then compared by sorting
unfoldable pub far : List ℕ → ℕ → ℕ → Bool
far t w first = ltb few (length (list_at t w (start w collision_field) first))

-- the buckets end, and each has at most `room` entries
pub record Bounded (h t : List ℕ) (w room : ℕ) : Type 0 where
  pub ends : (j : ℕ) → 0 < j → j < length h / 4 + 1 → Ends t w (start w collision_field) (bucket_at h j)
  pub short : (j : ℕ) → 0 < j → j < length h / 4 + 1 → length (list_at t w (start w collision_field) (bucket_at h j)) ≤ room

-- no bucket is long
pub record NoneFar (h t : List ℕ) (w : ℕ) : Type 0 where
  pub near : (j : ℕ) → 0 < j → j < length h / 4 + 1 → far t w (bucket_at h j) ≡ false

-- the keys of the long buckets differ
pub record FarApart (h t : List ℕ) (w : ℕ) : Type 0 where
  pub right : (j : ℕ) → 0 < j → j < length h / 4 + 1 → far t w (bucket_at h j) ≡ true → AllApart t w (bucket_at h j)

-- the `count` places from `off` on are 0
pub record Wiped (off count : ℕ) (work work' : List ℕ) : Type 0 where
  pub zeros : (y : ℕ) → y < count → mark_at work' off y ≡ 0
  pub within : Within off count work work'

-- the removed list R ends below count; its entries have the mark `gone`, all others 0
pub record Swept (t : List ℕ) (w count : ℕ) (R : List ℕ) (W : ℕ → ℕ) : Type 0 where
  pub links : Links (link_at t w (start w collision_field)) (link_at t w (start w collision_field) 0) R
  pub below : (y : ℕ) → y ∈ R → y < count
  pub dead : (y : ℕ) → y ∈ R → W y ≡ gone
  pub others : (y : ℕ) → (y ∈ R → ⊥) → W y ≡ 0

-- the test of the long buckets, in the places of the marks: they differ, and the removed entries alone have their mark again; or they do not differ
pub record Sifted (h t : List ℕ) (w count off : ℕ) (work work' : List ℕ) (r : Bool) : Type 0 where
  pub good : r ≡ true → FarApart h t w × ((R : List ℕ) × Swept t w count R (mark_at work' off))
  pub bad : r ≡ false → FarApart h t w → (R : List ℕ) → Links (link_at t w (start w collision_field)) (link_at t w (start w collision_field) 0) R → ((y : ℕ) → y ∈ R → y < count) → ⊥
  pub within : Within off count work work'
