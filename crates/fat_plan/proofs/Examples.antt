-- Worked examples, computed.
use mathlib.Core.Path.{◌≡◌, refl}
use mathlib.Core.List.{[], ◌∷◌}
use Rattle.fat_node.specs.Node.{run}
use Rattle.fat_carve.specs.Carve.{fit}
use Rattle.fat_merge.specs.Merge.{stretches}
use Rattle.fat_promises.specs.Blocks.{blocks_of}
use Rattle.fat_table.specs.Layout.{covers, hits}
use Rattle.fat_plan.specs.Plan.{moves, target_of}

-- a file of blocks 0, 1 and 5 moved to blocks 7, 8 and 9
moves_example : moves (blocks_of (run 0 2 ∷ run 5 1 ∷ [])) 7 ≡ 0 ∷ 7 ∷ 1 ∷ 8 ∷ 5 ∷ 9 ∷ []
moves_example = refl

-- its first target
target_example : target_of (moves (blocks_of (run 0 2 ∷ run 5 1 ∷ [])) 7) ≡ 7
target_example = refl

-- the lowest place for 3 blocks in a free chain of blocks 5 to 6, 0 to 1, and 4 is block 4, over two nodes that touch
lowest_example : fit 3 (stretches 8 0 (λ x. covers x (run 5 2 ∷ run 0 2 ∷ run 4 1 ∷ []))) ≡ 5
unfolding hits
lowest_example = refl
