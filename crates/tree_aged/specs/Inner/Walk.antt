-- What the walk along the links says: a depth-first walk, with a mark for each entry in the work list.
use Rattle.std.specs.Prelude.{◌≡◌, Option, Some, None, List, ◌∷◌, ◌++◌, ◌⊎◌, Bool, true, false, ℕ, ◌*◌, ◌/◌, ◌≤◌, ◌<◌, length, get_or, take, replicate}
use Rattle.order.specs.First.{Row, row, First}
use Rattle.order.specs.Answer.{Done}
use Rattle.links.specs.Links.{◌∈◌, Links}
use Rattle.tree_table.specs.Field.{field}
use Rattle.tree_table.specs.View.{removed_of}
use Rattle.tree_marks.specs.Inner.Marks.{mark_of}
use Rattle.tree_promises.specs.Inner.Ready.{LiveAt, alone}
use Rattle.tree_aged.specs.Age.{Names, Lost}
use Rattle.tree_aged.specs.Calls.{Age, age_gives, lost_rows}

-- the mark of an entry from which every way by links ends
abbrev pub ended : ℕ
ended = 65538

-- what an entry names, in its collision and in its next field
abbrev pub coll_of : (w : ℕ) (t : List ℕ) → ℕ → ℕ
coll_of w t x = field w t x 0

abbrev pub next_of : (w : ℕ) (t : List ℕ) → ℕ → ℕ
next_of w t x = field w t x 6

-- every way by links from x ends
pub data Ends (coll next : ℕ → ℕ) : ℕ → Type 0 where
  ends : (x : ℕ) → (0 < coll x → Ends coll next (coll x)) → (0 < next x → Ends coll next (next x)) → Ends coll next x

-- a table whose live entries name live ones, with a place for each entry
pub record Fits (w : ℕ) (t : List ℕ) (work : List ℕ) : Type 0 where
  pub wide : 28 ≤ w
  pub some : 1 ≤ field w t 0 1
  pub few : field w t 0 1 ≤ 65536
  pub inside : field w t 0 1 * w ≤ length t
  pub room : field w t 0 1 ≤ length work
  pub coll : (x : ℕ) → LiveAt w t x → 0 < field w t x 0 → LiveAt w t (field w t x 0)
  pub next : (x : ℕ) → LiveAt w t x → 0 < field w t x 6 → LiveAt w t (field w t x 6)

-- x is a live entry of it
pub record At (w : ℕ) (t : List ℕ) (work : List ℕ) (x : ℕ) : Type 0 where
  pub fits : Fits w t work
  pub live : LiveAt w t x

-- whether z is an entry that is not known to end
pub record OpenTo (work : List ℕ) (z : ℕ) (r : Bool) : Type 0 where
  pub yes : r ≡ true → (0 < z) × (mark_of work z ≡ ended → ⊥)
  pub no : r ≡ false → 0 < z → mark_of work z ≡ ended

-- the first link of x that leads to an entry not known to end: none, or that entry
pub record Open (w : ℕ) (t : List ℕ) (work : List ℕ) (x r : ℕ) : Type 0 where
  pub none : r ≡ 0 → (0 < field w t x 0 → mark_of work (field w t x 0) ≡ ended) × (0 < field w t x 6 → mark_of work (field w t x 6) ≡ ended)
  pub some : (r ≡ 0 → ⊥) → Names (coll_of w t) (next_of w t) x r × (mark_of work r ≡ ended → ⊥)

-- where no walk is under way: a live entry has no mark, or is known to end
pub record Known (w : ℕ) (t : List ℕ) (work : List ℕ) : Type 0 where
  pub at : (y : ℕ) → LiveAt w t y → (mark_of work y ≡ 0) ⊎ ((mark_of work y ≡ ended) × Ends (coll_of w t) (next_of w t) y)
  -- and an entry that is not live has one
  pub live : (y : ℕ) → 0 < y → y < field w t 0 1 → mark_of work y ≡ 0 → LiveAt w t y

-- a walk from y came to its end
pub record Gone (w : ℕ) (t : List ℕ) (y : ℕ) (work' : List ℕ) : Type 0 where
  pub fits : Fits w t work'
  pub known : Known w t work'
  pub seen : mark_of work' y ≡ 0 → ⊥

-- what a walk from y tells: every way from it ends, and the marks know it; or links lead from it into a circle
pub record Walked (w : ℕ) (t : List ℕ) (y : ℕ) (work' : List ℕ) (r : Bool) : Type 0 where
  pub good : r ≡ true → Gone w t y work'
  pub bad : r ≡ false → Lost (coll_of w t) (next_of w t) y

-- the same of an inode that may not be live, or may be known to end
pub record Passed (w : ℕ) (t : List ℕ) (y : ℕ) (work' : List ℕ) (r : Bool) : Type 0 where
  pub fits : r ≡ true → Fits w t work'
  pub known : r ≡ true → Known w t work'
  pub good : r ≡ true → LiveAt w t y → Lost (coll_of w t) (next_of w t) y → ⊥
  pub bad : r ≡ false → LiveAt w t y × Lost (coll_of w t) (next_of w t) y

-- no entry below x is lost
abbrev pub NoneLost : (w : ℕ) (t : List ℕ) (x : ℕ) → Type 0
NoneLost w t x = (y : ℕ) → y < x → LiveAt w t y → Lost (coll_of w t) (next_of w t) y → ⊥

-- what all walks tell: no entry is lost, or the lowest that is
abbrev pub Lowest : (w : ℕ) (t : List ℕ) → Option ℕ → Type 0
Lowest w t None = NoneLost w t (field w t 0 1)
Lowest w t (Some x) = LiveAt w t x × Lost (coll_of w t) (next_of w t) x × NoneLost w t x

-- the removed entries are a list that ends below the count
pub record RemovedEnds (w : ℕ) (t : List ℕ) : Type 0 where
  pub links : Links (coll_of w t) (field w t 0 0) (removed_of (alone w t))
  pub below : (y : ℕ) → y ∈ removed_of (alone w t) → y < field w t 0 1

-- a table with a work list whose first places, one for each entry that it has room for, are 0
pub record Ripe (w : ℕ) (t : List ℕ) (work : List ℕ) : Type 0 where
  pub wide : 28 ≤ w
  pub fits : Fits w t (take (length t / w) work)
  pub gone : RemovedEnds w t
  pub zeros : take (length t / w) work ≡ replicate (length t / w) 0
  pub long : length t / w ≤ length work

-- the two tables, once the gate is open
pub record OpenTree (d f : List ℕ) (work : List ℕ) : Type 0 where
  pub root : 80 ≤ length d
  pub dirs : Ripe 40 d work
  pub files : Ripe 48 f work

-- a work list of zeros
pub record Zeros (work : List ℕ) : Type 0 where
  pub at : (j : ℕ) → get_or work j 0 ≡ 0

-- the removed entries are marked, and nothing else
pub record Begun (w : ℕ) (t : List ℕ) (work : List ℕ) : Type 0 where
  pub fits : Fits w t work
  pub known : Known w t work

-- what the walks of a table leave: the lowest lost entry, and zeros
pub record Leaves (w : ℕ) (t : List ℕ) (work work' : List ℕ) (r : Option ℕ) : Type 0 where
  pub lowest : Lowest w t r
  pub clear : work' ≡ replicate (length work) 0

-- what one table's walks leave: the lowest lost entry, and the work list as it was
pub record Sorted (w : ℕ) (t : List ℕ) (work work' : List ℕ) (r : Option ℕ) : Type 0 where
  pub lowest : Lowest w t r
  pub same : work' ≡ work

-- the rows of two tables by themselves
abbrev pub alone_rows : (d f : List ℕ) → List (Row Age)
alone_rows d f = row (field 40 d 1 0 ≡ 0 → ⊥) (age_gives Done 1 1) ∷ (lost_rows (alone 40 d) 1 ++ lost_rows (alone 48 f) 2)

-- what is told once the gate is open; the work list is as it was
pub record OpenSays (d f work work' : List ℕ) (o : Age) : Type 0 where
  pub says : First (alone_rows d f) (age_gives Done 0 0) o
  pub same : work' ≡ work
