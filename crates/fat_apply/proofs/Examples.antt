-- Worked examples, computed.
use mathlib.Core.Path.{◌≡◌, refl}
use mathlib.Core.List.{[], ◌∷◌, ◌++◌}
use lib.Seq.{sets}
use Rattle.fat_node.specs.Node.{run}
use Rattle.fat_carve.specs.Carve.{carved}
use Rattle.fat_promises.specs.Blocks.{blocks_of, place_of, bytes_at}
use Rattle.fat_apply.specs.Inner.Moving.{sources_of}

-- a file of blocks 4 and 0 moved to blocks 1 and 2: the free chain of blocks 3, 1 and 2 becomes blocks 4, 0 and 3
free_example : (run 4 1 ∷ run 0 1 ∷ []) ++ carved 1 2 (run 3 1 ∷ run 1 2 ∷ []) ≡ run 4 1 ∷ run 0 1 ∷ run 3 1 ∷ []
free_example = refl

-- and its data, of one byte a block
data_example : sets (9 ∷ 0 ∷ 0 ∷ 0 ∷ 7 ∷ []) 1 (bytes_at 2 (9 ∷ 0 ∷ 0 ∷ 0 ∷ 7 ∷ []) 1 (blocks_of (run 4 1 ∷ run 0 1 ∷ [])) 0) ≡ 9 ∷ 7 ∷ 9 ∷ 0 ∷ 7 ∷ []
unfolding place_of
data_example = refl

-- the sources of a plan
sources_example : sources_of (4 ∷ 1 ∷ 0 ∷ 2 ∷ []) ≡ 4 ∷ 0 ∷ []
sources_example = refl
