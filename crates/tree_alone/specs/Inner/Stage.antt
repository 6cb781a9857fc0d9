-- What the parts of the test promise, table by table.
use Rattle.std.specs.Prelude.{◌≡◌, List, ◌⊎◌, ◌≢◌, ◌↔◌, Option, Some, Bool, true, false, ℕ, ◌+◌, ◌/◌, ◌≤◌, ◌<◌, length}
use Rattle.std.specs.Option.{is_some}
use Rattle.links.specs.Links.{◌∈◌, Links, Holds}
use Rattle.tree_table.specs.Field.{start, collision_field, field}
use Rattle.tree_table.specs.View.{View, view_of, hash_at, removed_of, Live}
use Rattle.tree_table.specs.Chain.{link_at, list_at}
use Rattle.tree_sound.specs.Sound.{Table}
use Rattle.tree_marks.specs.Inner.Marks.{gone, mark_at, Within, Unmarked, Marked}
use Rattle.tree_marks.specs.Inner.Gather.{Gathered, any, bucket_at}
use Rattle.tree_apart.specs.Inner.Apart.{few, Bounded, NoneFar, FarApart}
use Rattle.tree_alone.specs.Inner.Entries.{AllFit}

-- the removed entries have the mark `gone`, all others none
pub record OnlyGone (count : ℕ) (R : List ℕ) (W : ℕ → ℕ) : Type 0 where
  pub removed : (y : ℕ) → y ∈ R ↔ (W y ≡ gone)
  pub below : (y : ℕ) → W y ≢ 0 → (0 < y) × (y < count)
  pub only : (y : ℕ) → (W y ≡ 0) ⊎ (W y ≡ gone)

-- one bucket gone along: its list ends at entries that had no mark and now have mark i, and each fits; or it is not so
pub record BucketFiled (t : List ℕ) (w count buckets first i off : ℕ) (work work' : List ℕ) (r : Bool) : Type 0 where
  pub good : r ≡ true
      → ((xs : List ℕ) × Links (link_at t w (start w collision_field)) first xs × Unmarked count (mark_at work off) xs × Marked (mark_at work off) (mark_at work' off) i xs)
      × AllFit t w buckets first i
  pub bad : r ≡ false → (xs : List ℕ) → Links (link_at t w (start w collision_field)) first xs → Unmarked count (mark_at work off) xs → AllFit t w buckets first i → ⊥
  pub within : Within off count work work'

-- the same where the answer is the bucket's length, or none
pub record BucketCounted (t : List ℕ) (w count buckets first i off : ℕ) (work work' : List ℕ) (r : Option ℕ) : Type 0 where
  pub filed : BucketFiled t w count buckets first i off work work' (is_some r)
  pub longer : (n : ℕ) → r ≡ Some n → length (list_at t w (start w collision_field) first) ≤ n

-- all buckets gone along: their entries have their marks, and each fits; or the buckets do not each hold exactly the entries that name them by f, or not all fit
pub record BucketsFiled (h t : List ℕ) (w count buckets off : ℕ) (R work' : List ℕ) (r : Bool) : Type 0 where
  pub good : r ≡ true
      → Gathered (link_at t w (start w collision_field)) count (bucket_at h) any R (buckets + 1) (mark_at work' off)
      × ((j : ℕ) → 0 < j → j < buckets + 1 → AllFit t w buckets (bucket_at h j) j)
  pub bad : r ≡ false → (f : ℕ → ℕ)
      → ((j : ℕ) → 0 < j → j < buckets + 1 → any j → Holds (link_at t w (start w collision_field)) (bucket_at h j) (λ y. Live count R y × (f y ≡ j)))
      → ((j : ℕ) → 0 < j → j < buckets + 1 → AllFit t w buckets (bucket_at h j) j) → ⊥

-- the same where the answer is the longest bucket's length, or none
pub record BucketsCounted (h t : List ℕ) (w count buckets off : ℕ) (work work' : List ℕ) (r : Option ℕ) : Type 0 where
  pub filed : (R : List ℕ) → Gathered (link_at t w (start w collision_field)) count (bucket_at h) any R 1 (mark_at work off) → BucketsFiled h t w count buckets off R work' (is_some r)
  pub longest : (n : ℕ) → r ≡ Some n → (j : ℕ) → 0 < j → j < buckets + 1 → length (list_at t w (start w collision_field) (bucket_at h j)) ≤ n
  pub within : Within off count work work'

-- one table t of width w with its hash h, whatever its root and child lists
abbrev pub alone_view : List ℕ → List ℕ → ℕ → ℕ → (ℕ → ℕ) → View
alone_view h t w root head = view_of (length h / 4) (length t / w) root (field w t) (hash_at h) head

-- the numbers at its front: maximum at most the room, 1 <= count <= maximum
pub record FrontFits (v : View) : Type 0 where
  pub max_room : v.maximum ≤ v.room
  pub count_one : 1 ≤ v.count
  pub count_max : v.count ≤ v.maximum

-- its lists were gone along, each entry with its bucket's mark: then the table is sound by itself if the keys of its long buckets differ, or it is not
pub record TableSorted (h t : List ℕ) (w off : ℕ) (work work' : List ℕ) (r : Bool) : Type 0 where
  pub good : r ≡ true → FarApart h t w → (root : ℕ) (head : ℕ → ℕ) → FrontFits (alone_view h t w root head)
      → Table (alone_view h t w root head)
      × Gathered (link_at t w (start w collision_field)) (field w t 0 1) (bucket_at h) any (removed_of (alone_view h t w root head)) (length h / 4 + 1) (mark_at work' off)
  pub bad : r ≡ false → (root : ℕ) (head : ℕ → ℕ) → Table (alone_view h t w root head) → ⊥
  pub bounded : r ≡ true → Bounded h t w (field w t 0 1)
  pub apart : r ≡ true → (root : ℕ) (head : ℕ → ℕ) → Table (alone_view h t w root head) → FarApart h t w
  pub within : Within off (field w t 0 1) work work'

-- the same where the answer is the longest bucket's length, or none
pub record TableCounted (h t : List ℕ) (w off : ℕ) (work work' : List ℕ) (r : Option ℕ) : Type 0 where
  pub sorted : TableSorted h t w off work work' (is_some r)
  pub near : (n : ℕ) → r ≡ Some n → n ≤ few → NoneFar h t w

-- the whole test of one table by itself; `least` is the smallest count. The marks of the removed entries are left
pub record TableTested (h t : List ℕ) (w least off : ℕ) (work work' : List ℕ) (r : Bool) : Type 0 where
  pub good : r ≡ true → (root : ℕ) (head : ℕ → ℕ)
      → Table (alone_view h t w root head) × (least ≤ field w t 0 1) × OnlyGone (field w t 0 1) (removed_of (alone_view h t w root head)) (mark_at work' off)
  pub bad : r ≡ false → (root : ℕ) (head : ℕ → ℕ) → Table (alone_view h t w root head) → least ≤ field w t 0 1 → ⊥
  pub within : Within off (length t / w) work work'
