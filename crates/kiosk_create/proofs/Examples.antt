-- The first along the chain, and neither the lowest nor the one that fits best; a rest stands in its place; no node of three where five blocks are free.
use mathlib.Core.Path.{◌≡◌, refl}
use mathlib.Core.List.{List, [], ◌∷◌}
use Rattle.fat_node.specs.Node.{Run, run}
use native.Mathlib.Omega.{arith}
use Rattle.fat_carve.specs.Carve.{carved, fit}
use Rattle.fat_carve.proofs.Carves.{fit_none}
use Rattle.kiosk_create.specs.Create.{NoneLong, Enough}

-- the free chain is blocks 9, then 4 to 6, then 0 and 1
abbrev example : List Run
example = run 9 1 ∷ run 4 3 ∷ run 0 2 ∷ []

pub example_first : fit 2 example ≡ 5
example_first = refl

pub example_cut : carved 4 2 example ≡ run 9 1 ∷ run 6 1 ∷ run 0 2 ∷ []
example_cut = refl

pub example_whole : carved 4 3 example ≡ run 9 1 ∷ run 0 2 ∷ []
example_whole = refl

pub example_none : fit 4 example ≡ 0
example_none = refl

-- six blocks are free and no node has four: the sum does not decide
pub example_sum : Enough 4 example × NoneLong 4 example
example_sum = (omega arith, fit_none 4 example example_none)
