-- Plans to make a file whole: which are accepted, and which one the planner finds.
use Rattle.std.specs.Prelude.{◌≡◌, List, [], ◌∷◌, ℕ, suc, ◌+◌, ◌≤◌, ◌<◌, get_or}
use Rattle.fat_node.specs.Entry.{Bytes}
use Rattle.fat_table.specs.Chain.{total, free_at, file_at}
use Rattle.fat_table.specs.Layout.{covers}
use Rattle.fat_promises.specs.Blocks.{blocks_of}
use Rattle.fat_carve.specs.Carve.{fit}
use Rattle.fat_merge.specs.Merge.{tidied}

-- a plan that moves these blocks to the blocks from m on: two places a block, source and target
abbrev pub moves : List ℕ → ℕ → List ℕ
moves [] m = []
moves (b ∷ l) m = b ∷ (m ∷ moves l (suc m))

-- the first target of a plan
abbrev pub target_of : List ℕ → ℕ
target_of plan = get_or plan 1 0

-- block x is free
abbrev pub Free : (n : ℕ) (t : Bytes) (x : ℕ) → Type 0
Free n t x = 1 ≤ covers x (free_at n t)

-- the plan is accepted for the file at block b: its sources are the file's blocks in file order, each once, its targets are consecutive and rising, and
-- each is free
pub record Accepted (n : ℕ) (t : Bytes) (b : ℕ) (plan : List ℕ) : Type 0 where
  pub each : plan ≡ moves (blocks_of (file_at n t b)) (target_of plan)
  pub free : (x : ℕ) → target_of plan ≤ x → x < target_of plan + total (file_at n t b) → Free n t x

-- the index of the lowest block at which k consecutive free blocks stand, 0 for none: the first of the longest stretches of free blocks, rising, that has
-- k blocks. That it is the lowest, over touching nodes too, is a theorem
unfoldable pub lowest : (n : ℕ) (t : Bytes) (k : ℕ) → ℕ
lowest n t k = fit k (tidied n t)
