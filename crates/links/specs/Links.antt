-- Lists threaded through link words: an entry's link is the next entry's number, and 0 ends the list.
use Rattle.std.specs.Prelude.{◌≡◌, List, [], ◌∷◌, ◌⊎◌, ◌↔◌, ℕ, ◌<◌}

infix 30 ◌∈◌
-- x stands in the list
abbrev pub ◌∈◌ : ℕ → List ℕ → Type 0
x ∈ [] = ⊥
x ∈ (y ∷ ys) = (x ≡ y) ⊎ (x ∈ ys)

-- no number stands in the list twice
abbrev pub Distinct : List ℕ → Type 0
Distinct [] = Unit {0}
Distinct (x ∷ xs) = (x ∈ xs → ⊥) × Distinct xs

-- the list that starts at x and goes on by `next` until 0
abbrev pub Links : (ℕ → ℕ) → ℕ → List ℕ → Type 0
Links next x [] = x ≡ 0
Links next x (y ∷ ys) = (x ≡ y) × (0 < y) × Links next (next y) ys

-- the list from h, by `next`, ends and holds exactly the y with P y (once each, which follows)
abbrev pub Holds : (ℕ → ℕ) → ℕ → (ℕ → Type 0) → Type 0
Holds next h P = (xs : List ℕ) × Links next h xs × ((y : ℕ) → y ∈ xs ↔ P y)
