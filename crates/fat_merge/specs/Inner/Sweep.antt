-- A sweep over the nodes in the order of their blocks, by marks at the starts of the free ones.
use Rattle.std.specs.Prelude.{◌≡◌, List, [], ◌∷◌, ℕ, ◌+◌, ◌-◌, ◌*◌, ◌≤◌, ◌<◌, length, get_or, set}
use Rattle.fat_node.specs.Entry.{Bytes}
use Rattle.fat_node.specs.Node.{Run, run, NodeAt}
use Rattle.fat_table.specs.Steps.{lay}
use Rattle.fat_merge.specs.Merge.{stretches}

-- the list with 1 at the start of each run
abbrev pub marks : List Run → List ℕ → List ℕ
marks [] w = w
marks (r ∷ l) w = marks l (set w r.start 1)

-- from block b on node stands after node up to n; at each block of a node c is what w has at the node's start, and behind its start w has 0
pub data Ahead (n : ℕ) (t : Bytes) (w : List ℕ) (c : ℕ → ℕ) : ℕ → Type 0 where
  end : {b : ℕ} → b ≡ n → Ahead n t w c b
  node : {b s : ℕ} → NodeAt t n b s → ((x : ℕ) → b ≤ x → x < b + s → c x ≡ get_or w b 0) → ((x : ℕ) → b < x → x < b + s → get_or w x 0 ≡ 0)
      → Ahead n t w c (b + s)
      → Ahead n t w c b

-- a node stands at block b
pub record Here (n : ℕ) (t : Bytes) (b : ℕ) : Type 0 where
  pub few : n ≤ 1000000
  pub room : length t ≡ 8 * (n + 1)
  pub low : b < n
  pub size : ℕ
  pub node : NodeAt t n b size

-- a sweep can read the table from block b on
pub record Reading (n : ℕ) (t : Bytes) (w : List ℕ) (b : ℕ) : Type 0 where
  pub few : n ≤ 1000000
  pub room : length t ≡ 8 * (n + 1)
  pub long : length w ≡ n
  pub told : ℕ → ℕ
  pub ahead : Ahead n t w told b

-- from block b the sweep came to block r over nodes that are not marked, and stands before a marked one or at the end
pub record Skipped (n : ℕ) (t : Bytes) (w : List ℕ) (c : ℕ → ℕ) (b r : ℕ) : Type 0 where
  pub from : b ≤ r
  pub within : r ≤ n
  pub ahead : Ahead n t w c r
  pub same : stretches (n - b) b c ≡ stretches (n - r) r c
  pub met : r < n → get_or w r 0 ≡ 0 → ⊥
  pub none : (x : ℕ) → b ≤ x → x < r → get_or w x 0 ≡ 0

-- from block b the sweep came to block r over marked nodes, a whole stretch
pub record Passed (n : ℕ) (t : Bytes) (w : List ℕ) (c : ℕ → ℕ) (b r : ℕ) : Type 0 where
  pub more : b < r
  pub within : r ≤ n
  pub ahead : Ahead n t w c r
  pub one : stretches (n - b) b c ≡ run b (r - b) ∷ stretches (n - r) r c

-- w' is w with 0 at every place from b up to r
pub record Swept (b r : ℕ) (w w' : List ℕ) : Type 0 where
  pub long : length w' ≡ length w
  pub gone : (x : ℕ) → b ≤ x → x < r → get_or w' x 0 ≡ 0
  pub below : (x : ℕ) → x < b → get_or w' x 0 ≡ get_or w x 0
  pub behind : (x : ℕ) → r ≤ x → get_or w' x 0 ≡ get_or w x 0

-- the sweep came to block r over a whole stretch, whatever the colours are, and has taken its marks away
pub record PassedOver (n : ℕ) (t : Bytes) (w w' : List ℕ) (b r : ℕ) : Type 0 where
  pub each : (c : ℕ → ℕ) → Ahead n t w c b → Passed n t w c b r
  pub swept : Swept b r w w'

-- the stretches from block b on are laid, whatever the colours are, and their marks taken away
pub record LaidFrom (n : ℕ) (t t' : Bytes) (w w' : List ℕ) (b : ℕ) : Type 0 where
  pub each : (c : ℕ → ℕ) → Ahead n t w c b → t' ≡ lay (stretches (n - b) b c) 0 t
  pub swept : Swept b n w w'

-- r is the index of block b, or 0 where b is n
pub record IndexIs (n b r : ℕ) : Type 0 where
  pub some : b < n → r ≡ b + 1
  pub none : n ≤ b → r ≡ 0
