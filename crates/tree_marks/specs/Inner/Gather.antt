-- Many lists, numbered from 1, gone along one after the other with their numbers as marks.
use Rattle.std.specs.Prelude.{◌≡◌, List, ◌⊎◌, ◌≢◌, ◌↔◌, Bool, true, false, ℕ, ◌-◌, ◌<◌, get_or}
use Rattle.links.specs.Links.{◌∈◌, Links, Holds}
use Rattle.tree_table.specs.View.{Live, hash_at}
use Rattle.tree_marks.specs.Inner.Marks.{gone, mark_at, Within, ListMarked}

-- the wanted lists with numbers from 1 below i were gone along: their entries have their number as mark, the removed ones R have `gone`, all others 0
pub record Gathered (nx : ℕ → ℕ) (count : ℕ) (head : ℕ → ℕ) (want : ℕ → Type 0) (R : List ℕ) (i : ℕ) (W : ℕ → ℕ) : Type 0 where
  pub removed : (y : ℕ) → y ∈ R ↔ (W y ≡ gone)
  pub list : (j : ℕ) → 0 < j → j < i → want j → (xs : List ℕ) × Links nx (head j) xs × ((y : ℕ) → y ∈ xs ↔ (W y ≡ j))
  pub below : (y : ℕ) → W y ≢ 0 → (0 < y) × (y < count)
  pub only : (y : ℕ) → (W y ≡ 0) ⊎ ((W y ≡ gone) ⊎ ((0 < W y) × (W y < i) × want (W y)))

-- what going along the wanted lists below n answers: all of them, gathered; or that they do not each hold exactly the entries that name them by f
pub record Gathers (nx : ℕ → ℕ) (count : ℕ) (head : ℕ → ℕ) (want : ℕ → Type 0) (n off : ℕ) (R work' : List ℕ) (r : Bool) : Type 0 where
  pub good : r ≡ true → Gathered nx count head want R n (mark_at work' off)
  pub bad : r ≡ false → (f : ℕ → ℕ) → ((j : ℕ) → 0 < j → j < n → want j → Holds nx (head j) (λ y. Live count R y × (f y ≡ j))) → ⊥

-- the first entry of bucket j, counted from 1
abbrev pub bucket_at : List ℕ → ℕ → ℕ
bucket_at h j = hash_at h (j - 1)

-- every number is wanted
abbrev pub any : ℕ → Type 0
any j = Unit {0}

-- the removed directories, below count, are those that have the mark
pub record GoneMarked (count : ℕ) (R work : List ℕ) : Type 0 where
  pub dead : (p : ℕ) → 0 < p → p < count → (p ∈ R) ↔ (get_or work p 0 ≡ gone)

-- one directory's list: it is removed, and nothing is done; or its list was gone along
pub record DirMarked (nx : ℕ → ℕ) (count : ℕ) (head : ℕ → ℕ) (p off : ℕ) (work work' : List ℕ) (r : Bool) : Type 0 where
  pub none : get_or work p 0 ≡ gone → (r ≡ true) × (work' ≡ work)
  pub some : (get_or work p 0 ≡ gone → ⊥) → ListMarked nx count (head p) p off work work' r

-- an entry's mark is `gone`, or the parent that the entry names, which is 0 for the root alone
abbrev pub ParentMarked : ℕ → ℕ → ℕ → ℕ → Type 0
ParentMarked root y mark parent = (mark ≡ gone) ⊎ ((mark ≡ parent) × ((0 < mark) ⊎ (y ≡ root)))

-- every mark but `gone` is taken away
pub record GoneKept (off count : ℕ) (work work' : List ℕ) : Type 0 where
  pub dead : (y : ℕ) → y < count → mark_at work off y ≡ gone → mark_at work' off y ≡ gone
  pub others : (y : ℕ) → y < count → (mark_at work off y ≡ gone → ⊥) → mark_at work' off y ≡ 0
  pub within : Within off count work work'
