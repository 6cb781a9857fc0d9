-- A chain laid anew node by node, each node written when the next is known.
use Rattle.std.specs.Prelude.{◌≡◌, List, [], ◌∷◌, ◌++◌, ℕ, zero, suc, ◌+◌, ◌-◌, ◌≤◌, length}
use Rattle.fat_node.specs.Entry.{Bytes}
use Rattle.fat_node.specs.Node.{Run, run, set_node}
use Rattle.fat_table.specs.Layout.{taken, left, hits, covers, empties}
use Rattle.fat_table.specs.Steps.{first, lay}
use Rattle.fat_table.specs.Holds.{Laid}
use Rattle.fat_table.specs.Chain.{free_at}
use Rattle.fat_carve.specs.Carve.{carved}

-- a node of so many blocks, or none
abbrev pub node_of : (size start : ℕ) → List Run
node_of zero start = []
node_of (suc s) start = run start (suc s) ∷ []

-- the index of a chain's first node, where one of size blocks may stand before the rest of it and f is known if one does
abbrev pub first_of : (size f : ℕ) → List Run → ℕ
first_of zero f l = first l
first_of (suc s) f l = f

-- a node that waits, of size blocks from start on, with the index p before it, is within the volume
pub record Waits (n size start p : ℕ) : Type 0 where
  pub within : start + size ≤ n
  pub prev : p ≤ n
  -- nothing is written yet where none waits
  pub none : size ≡ 0 → p ≡ 0

-- the waiting node is written with the index i for its next, or none waits and nothing is written
pub data Wrote (t : Bytes) (size start p i : ℕ) : Bytes → Type 0 where
  unwritten : {t' : Bytes} → t' ≡ t → Wrote t size start p i t'
  written : {t' : Bytes} → 1 ≤ size → t' ≡ set_node t (run start size) p i → Wrote t size start p i t'

-- one more node is put behind the waiting one: it waits now
pub record PutSays (n : ℕ) (t : Bytes) (size start p f size₁ start₁ : ℕ) (t' : Bytes) (size₂ start₂ p₂ f₂ : ℕ) : Type 0 where
  pub lays : (l : List Run) → lay (node_of size start ++ (node_of size₁ start₁ ++ l)) p t ≡ lay (node_of size₂ start₂ ++ l) p₂ t'
  pub firsts : (l : List Run) → first_of size f (node_of size₁ start₁ ++ l) ≡ first_of size₂ f₂ l
  pub wrote : Wrote t size start p (suc start₁) t'
  pub waits : Waits n size₂ start₂ p₂
  pub only : (x : ℕ) → covers x (node_of size₂ start₂) ≤ covers x (node_of size start) + covers x (node_of size₁ start₁)

-- what the window, the blocks from m up to e, leaves of the node r is put behind the waiting one
pub record PartsSay (n : ℕ) (t : Bytes) (size start p f : ℕ) (r : Run) (m e : ℕ) (t' : Bytes) (size₂ start₂ p₂ f₂ : ℕ) : Type 0 where
  pub lays : (l : List Run) → lay (node_of size start ++ (taken (r ∷ []) (m - r.start) ++ (left (r ∷ []) (e - r.start) ++ l))) p t ≡ lay (node_of size₂ start₂ ++ l) p₂ t'
  pub firsts : (l : List Run) → first_of size f (taken (r ∷ []) (m - r.start) ++ (left (r ∷ []) (e - r.start) ++ l)) ≡ first_of size₂ f₂ l
  pub keeps : (l : List Run) (o : ℕ) → empties l ≡ 0 → ((x : ℕ) → covers x (node_of size start) + (hits x r + covers x l) ≤ 1) → Laid t l o → Laid t' l o
  pub long : length t' ≡ length t
  pub waits : Waits n size₂ start₂ p₂
  pub only : (x : ℕ) → covers x (node_of size₂ start₂) ≤ covers x (node_of size start) + hits x r

-- the free chain without the blocks from m up to e is laid, and index i names its first node
pub record CarvedBy (n : ℕ) (t : Bytes) (m e : ℕ) (t' : Bytes) (i : ℕ) : Type 0 where
  pub lays : t' ≡ lay (carved m (e - m) (free_at n t)) 0 t
  pub at : i ≡ first (carved m (e - m) (free_at n t))
