-- Going up from a directory by its parents, as the marks name them; a mark 0 is where it is known that one comes to the root.
use Rattle.std.specs.Prelude.{◌≡◌, List, ◌⊎◌, Bool, true, false, ℕ, ◌<◌}
use Rattle.links.specs.Links.{◌∈◌, Links}
use Rattle.tree_marks.specs.Inner.Marks.{mark_of, Within, Marked}
use Rattle.tree_table.specs.View.{Live, Reaches}
use Rattle.tree_marks.specs.Inner.Gather.{GoneMarked}

-- the list of marks from y on ends, and lies below count
abbrev pub Tops : ℕ → List ℕ → ℕ → Type 0
Tops count work y = (ps : List ℕ) × Links (mark_of work) y ps × ((z : ℕ) → z ∈ ps → z < count)

-- the marks on the way up from y are 0, the others stay
pub record Flat (count y : ℕ) (work work' : List ℕ) : Type 0 where
  pub marks : (ps : List ℕ) → Links (mark_of work) y ps → Marked (mark_of work) (mark_of work') 0 ps
  pub within : Within 0 count work work'

-- each live directory's mark is its parent, which is live; or 0, and it comes to the root
pub record Rising (u : ℕ → ℕ) (count : ℕ) (R work : List ℕ) : Type 0 where
  pub at : (y : ℕ) → Live count R y → ((mark_of work y ≡ 0) × Reaches u y) ⊎ ((mark_of work y ≡ u y) × Live count R (u y))

-- what is told of one directory: that it comes to the root, as the marks now know; or that it does not
pub record Risen (count y : ℕ) (work work' : List ℕ) (r : Bool) : Type 0 where
  pub good : r ≡ true → (u : ℕ → ℕ) (R : List ℕ) → GoneMarked count R work → Rising u count R work
      → GoneMarked count R work' × Rising u count R work' × (Live count R y → Reaches u y)
  pub bad : r ≡ false → (u : ℕ → ℕ) (R : List ℕ) → u 1 ≡ 0 → GoneMarked count R work → Rising u count R work → Live count R y × (Reaches u y → ⊥)
  pub within : Within 0 count work work'

-- what is told of all directories
pub record AllRisen (count : ℕ) (work work' : List ℕ) (r : Bool) : Type 0 where
  pub good : r ≡ true → (u : ℕ → ℕ) (R : List ℕ) → GoneMarked count R work → Rising u count R work
      → GoneMarked count R work' × ((y : ℕ) → Live count R y → Reaches u y)
  pub bad : r ≡ false → (u : ℕ → ℕ) (R : List ℕ) → u 1 ≡ 0 → GoneMarked count R work → Rising u count R work → ((y : ℕ) → Live count R y → Reaches u y) → ⊥
  pub within : Within 0 count work work'
