-- Worked examples, computed.
use mathlib.Core.Path.{◌≡◌, refl}
use mathlib.Core.List.{[], ◌∷◌}
use Rattle.fat_node.specs.Node.{run}
use Rattle.fat_carve.specs.Carve.{carved, fit}

-- a window over touching runs that stand in another order
over_example : carved 3 4 (run 5 3 ∷ run 9 1 ∷ run 1 4 ∷ []) ≡ run 7 1 ∷ run 9 1 ∷ run 1 2 ∷ []
over_example = refl

-- a run taken whole is gone
whole_example : carved 4 2 (run 1 1 ∷ run 4 2 ∷ run 9 1 ∷ []) ≡ run 1 1 ∷ run 9 1 ∷ []
whole_example = refl

-- the first run that is long enough
fit_example : fit 2 (run 9 1 ∷ run 4 3 ∷ run 0 2 ∷ []) ≡ 5
fit_example = refl
