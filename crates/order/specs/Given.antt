-- Of rows in order: that one of them gives an outcome, and that none of them applies. For functions that decide the rows a call begins with.
use Rattle.std.specs.Prelude.{◌≡◌, List, [], ◌∷◌, ◌⊎◌}
use Rattle.order.specs.First.{Row}

-- some row applies, and o is what the first such row gives
abbrev pub Given : {A : Type 0} → List (Row A) → A → Type 0
Given [] o = ⊥
Given (r ∷ rs) o = (r.when × (o ≡ r.gives)) ⊎ ((r.when → ⊥) × Given rs o)

-- no row applies
abbrev pub None : {A : Type 0} → List (Row A) → Type 0
None [] = Unit {0}
None (r ∷ rs) = (r.when → ⊥) × None rs
