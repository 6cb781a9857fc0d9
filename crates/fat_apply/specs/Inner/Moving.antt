-- The sources of a plan, and what the functions that apply it ask for and say.
use Rattle.std.specs.Prelude.{◌≡◌, List, [], ◌∷◌, ◌⊎◌, ℕ, ◌+◌, ◌≤◌, ◌<◌, length, get_or}
use Rattle.fat_node.specs.Entry.{Bytes}
use Rattle.fat_place.specs.Place.{applied}
use Rattle.fat_plan.specs.Plan.{target_of}
use Rattle.fat_apply.specs.Apply.{copied}

-- the sources of a plan: every other place of it, from the first on
abbrev pub sources_of : List ℕ → List ℕ
sources_of [] = []
sources_of (b ∷ []) = []
sources_of (b ∷ (m ∷ l)) = b ∷ sources_of l

-- the sources of a plan are blocks of the volume, and none of the blocks from m on, as many as they are, which are too
pub record Movable (n m : ℕ) (plan : List ℕ) : Type 0 where
  pub few : n ≤ 1000000
  pub within : m + length (sources_of plan) ≤ n
  pub low : (i : ℕ) → i < length (sources_of plan) → get_or (sources_of plan) i 0 < n
  pub apart : (i : ℕ) → i < length (sources_of plan) → (get_or (sources_of plan) i 0 < m) ⊎ (m + length (sources_of plan) ≤ get_or (sources_of plan) i 0)

-- the plan for the file at block b is applied: its new first block, the table and the data
pub record AppliedBy (n : ℕ) (t d : Bytes) (l b : ℕ) (plan : List ℕ) (first : ℕ) (t' d' : Bytes) : Type 0 where
  pub at : first ≡ target_of plan
  pub table : t' ≡ applied n t b (target_of plan)
  pub bytes : d' ≡ copied n t d l b (target_of plan)
