-- The lists of sound tables are those that the code walks: each ends, lies in its table, and is what its definition says.
use mathlib.Core.Path.{◌≡◌, refl, sym, ◌∙◌}
use mathlib.Core.List.{List}
use Prim.Native.Nat.{ℕ, ◌+◌, ◌-◌, ◌*◌, ◌/◌, ◌≤◌, ◌<◌}
use native.Mathlib.Nat.{mul-le-mul_right, suc-mul, div-mul-le_self}
use native.Mathlib.Omega.{arith}
use lib.ListN.{length}
use Rattle.links.specs.Links.{◌∈◌, Links, Holds}
use Rattle.links.specs.Change.{walk}
use Rattle.links.proofs.Laws.{walked, fewer, kept}
use Rattle.tree_table.specs.Field.{field}
use Rattle.tree_table.specs.View.{View, view_of, hash_at, removed_of, bucket_of}
use Rattle.tree_table.specs.Chain.{link_at, list_at, Ends}
use Rattle.tree_table.proofs.Chain.{list_is, ends}
use Rattle.tree_sound.specs.Tables.{Tables, dirs, files}
use Rattle.tree_sound.specs.Sizes.{buckets}
use Rattle.tree_promises.specs.Inner.Ready.{Ready, LiveAt, Single}

-- entry y of a table with room for more lies in it
pub inside : (t : List ℕ) (w y count : ℕ) → y < count → count * w ≤ length t → y * w + w ≤ length t
inside t w y count h fits = omega (arith, mul-le-mul_right w h, suc-mul y w)

-- a list of entries below count, through the words at a place
module _ (t : List ℕ) (w at count h : ℕ) (next : ℕ → ℕ) (same : (y : ℕ) → link_at t w at y ≡ next y) (xs : List ℕ) (l : Links next h xs)
    (some : 0 < count) (few : count ≤ 65536) (fits : count * w ≤ length t) (low : (y : ℕ) → y ∈ xs → y < count) where
  short : length xs < count
  short = fewer next count h xs some l low

  links : Links (link_at t w at) h xs
  links = kept next (link_at t w at) h xs (λ y m. same y) l

  pub ends_of : Ends t w at h
  ends_of = ends t w at h xs links (omega (arith, short)) (λ y m. inside t w y count (low y m) fits)

  pub list_of : list_at t w at h ≡ walk next count h
  list_of = list_is t w at h xs links (omega (arith, short)) ∙ sym (walked next count h xs l (omega (arith, short)))

-- one table by itself
module _ (h t : List ℕ) (w : ℕ) (S : Single h t w) where
  abbrev view : View
  view = view_of (buckets h) (length t / w) S.root (field w t) (hash_at h) S.head

  pub all_fit : field w t 0 1 * w ≤ length t
  all_fit =
      let c : field w t 0 1 ≤ length t / w = omega (arith, S.table.count_max, S.table.max_room) in
      omega (arith, mul-le-mul_right w c, div-mul-le_self (length t) w)

  pub count_few : field w t 0 1 ≤ 65536
  count_few = omega (arith, S.table.count_max, S.table.max_room, S.few)

  coll_same : (y : ℕ) → link_at t w (w - 4) y ≡ field w t y 0
  unfolding field
  coll_same y = refl

  next_same : (y : ℕ) → link_at t w 20 y ≡ field w t y 6
  unfolding field
  next_same y = refl

  pub removed_ends : Ends t w (w - 4) (field w t 0 0)
  removed_ends =
      ends_of t w (w - 4) (field w t 0 1) (field w t 0 0) (λ y. field w t y 0) coll_same (removed_of view) S.table.removed S.table.count_one count_few
      all_fit S.table.removed_below

  pub removed_list : list_at t w (w - 4) (field w t 0 0) ≡ removed_of view
  removed_list =
      list_of t w (w - 4) (field w t 0 1) (field w t 0 0) (λ y. field w t y 0) coll_same (removed_of view) S.table.removed S.table.count_one count_few
      all_fit S.table.removed_below

  module _ (b : ℕ) (hb : b < buckets h) where
    pub bucket_ends : Ends t w (w - 4) (hash_at h b)
    bucket_ends =
        let H = S.table.bucket b hb in
        ends_of t w (w - 4) (field w t 0 1) (hash_at h b) (λ y. field w t y 0) coll_same H.0 H.1 S.table.count_one count_few all_fit
        (λ y m. ((H.2 y).0 m).0.1)

    pub bucket_list : list_at t w (w - 4) (hash_at h b) ≡ bucket_of view b
    bucket_list =
        let H = S.table.bucket b hb in
        list_of t w (w - 4) (field w t 0 1) (hash_at h b) (λ y. field w t y 0) coll_same H.0 H.1 S.table.count_one count_few all_fit
        (λ y m. ((H.2 y).0 m).0.1)

    -- a bucket's list is the one that its rule speaks of
    pub bucket_is : bucket_of view b ≡ (S.table.bucket b hb).0
    bucket_is =
        let H = S.table.bucket b hb in
        walked (λ y. field w t y 0) (field w t 0 1) (hash_at h b) H.0 H.1
        (let q : length H.0 < field w t 0 1 = fewer (λ y. field w t y 0) (field w t 0 1) (hash_at h b) H.0 S.table.count_one H.1 (λ y m. ((H.2 y).0 m).0.1) in omega arith)

  -- a list through next whose entries are live
  module _ (first : ℕ) (P : ℕ → Type 0) (H : Holds (λ y. field w t y 6) first (λ y. LiveAt w t y × P y)) where
    pub child_ends : Ends t w 20 first
    child_ends =
        ends_of t w 20 (field w t 0 1) first (λ y. field w t y 6) next_same H.0 H.1 S.table.count_one count_few all_fit (λ y m. ((H.2 y).0 m).0.1)

    pub child_list : list_at t w 20 first ≡ walk (λ y. field w t y 6) (field w t 0 1) first
    child_list =
        list_of t w 20 (field w t 0 1) first (λ y. field w t y 6) next_same H.0 H.1 S.table.count_one count_few all_fit (λ y m. ((H.2 y).0 m).0.1)

-- the two tables by themselves
module _ (s : Tables) (R : Ready s) where
  pub dir_single : Single s.dir_hash s.dir_table 40
  dir_single = record { wide = omega arith; some = R.dir_buckets; few = R.few_dirs; root = 1; head = (dirs s).head; table = R.sound.dirs.below.table }

  pub file_single : Single s.file_hash s.file_table 48
  file_single = record { wide = omega arith; some = R.file_buckets; few = R.few_files; root = 0; head = (files s).head; table = R.sound.files.table }
