-- Worked examples, computed.
use mathlib.Core.Path.{◌≡◌, refl}
use mathlib.Core.List.{[], ◌∷◌}
use Rattle.fat_node.specs.Node.{run}
use Rattle.fat_table.specs.Layout.{hits, covers}
use Rattle.fat_merge.specs.Merge.{stretches}

-- neighbours out of order become one run; a block between stays a gap
merged_example : stretches 8 0 (λ x. covers x (run 5 1 ∷ run 3 1 ∷ run 0 1 ∷ run 1 2 ∷ [])) ≡ run 0 4 ∷ run 5 1 ∷ []
unfolding hits
merged_example = refl

all_example : stretches 4 0 (λ x. covers x (run 2 2 ∷ run 0 2 ∷ [])) ≡ run 0 4 ∷ []
unfolding hits
all_example = refl

none_example : stretches 4 0 (λ x. covers x []) ≡ []
none_example = refl
