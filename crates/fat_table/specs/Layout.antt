-- Layouts: how the blocks lie in chains of runs, and how a chain is cut. No table here.
use Rattle.std.specs.Prelude.{◌≡◌, List, [], ◌∷◌, ◌++◌, cond, ◌&&◌, ℕ, zero, suc, ◌+◌, ◌-◌, leb, ltb, length}
use Rattle.fat_node.specs.Node.{Run, run}

-- the free chain, and the chains of the files
pub record Layout : Type 0 where
  pub free : List Run
  pub files : List (List Run)

-- the same, by its parts
abbrev pub layout : List Run → List (List Run) → Layout
layout free files = record { free = free; files = files }

-- the first c blocks of a chain: whole runs while they fit, then the left part of the next
abbrev pub taken : List Run → ℕ → List Run
taken [] c = []
taken (r ∷ l) zero = []
taken (r ∷ l) (suc c) = cond (leb r.size (suc c)) (r ∷ taken l (suc c - r.size)) (run r.start (suc c) ∷ [])

-- what is left of the chain: the right part of the run that was split, and the runs after it
abbrev pub left : List Run → ℕ → List Run
left [] c = []
left (r ∷ l) zero = r ∷ l
left (r ∷ l) (suc c) = cond (leb r.size (suc c)) (left l (suc c - r.size)) (run (r.start + suc c) (r.size - suc c) ∷ l)

-- the runs of some chains, one chain after the other
abbrev pub joined : List (List Run) → List Run
joined [] = []
joined (f ∷ fs) = f ++ joined fs

-- all runs of a layout
abbrev pub runs : Layout → List Run
runs L = L.free ++ joined L.files

-- 1 where block x is in the run, else 0
unfoldable pub hits : ℕ → Run → ℕ
hits x r = cond (leb r.start x && ltb x (r.start + r.size)) 1 0

-- how many runs of the list block x is in
abbrev pub covers : ℕ → List Run → ℕ
covers x [] = 0
covers x (r ∷ l) = hits x r + covers x l

-- how many runs of the list have no block
abbrev pub empties : List Run → ℕ
empties [] = 0
empties (r ∷ l) = (1 - r.size) + empties l

-- how many chains of the list have no run
abbrev pub blanks : List (List Run) → ℕ
blanks [] = 0
blanks (f ∷ fs) = (1 - length f) + blanks fs

-- the runs cover blocks 0 to n - 1, each once, and no other
pub record Tiled (n : ℕ) (L : Layout) : Type 0 where
  -- no run is empty
  pub positive : empties (runs L) ≡ 0
  -- a block below n is in exactly one run, another block in none
  pub once : (x : ℕ) → covers x (runs L) ≡ hits x (run 0 n)
  -- no file is empty
  pub nonempty : blanks L.files ≡ 0
