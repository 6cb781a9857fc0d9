-- A window of blocks taken out of a chain in place.
use Rattle.std.specs.Prelude.{List, [], ◌∷◌, ◌++◌, cond, ℕ, suc, ◌+◌, ◌-◌, ◌≤◌, leb}
use Rattle.fat_node.specs.Node.{Run, run}
use Rattle.fat_table.specs.Layout.{taken, left, hits, covers}

-- the chain without blocks m to m + k - 1: of each run the part before block m, then the part from block m + k on
abbrev pub carved : ℕ → ℕ → List Run → List Run
carved m k [] = []
carved m k (r ∷ l) = taken (r ∷ []) (m - r.start) ++ (left (r ∷ []) (m + k - r.start) ++ carved m k l)

-- blocks m to m + k - 1 are all in the chain
pub record Window (m k : ℕ) (l : List Run) : Type 0 where
  pub some : 1 ≤ k
  pub each : (x : ℕ) → hits x (run m k) ≤ covers x l

-- the index of the first run along a chain that has c blocks, 0 for none
abbrev pub fit : ℕ → List Run → ℕ
fit c [] = 0
fit c (r ∷ l) = cond (leb c r.size) (suc r.start) (fit c l)
