-- What the functions of a walk say of a block and of the work list. A walk marks the blocks that it followed by a number that stood nowhere before.
use Rattle.std.specs.Prelude.{◌≡◌, Bool, true, false, Result, Ok, Err, List, ℕ, suc, ◌+◌, ◌≤◌, ◌<◌, length, get_or, replicate}
use Rattle.order.specs.First.{First}
use Rattle.order.specs.declared.Fault.{Fault}
use Rattle.fat_node.specs.Entry.{Bytes}
use Rattle.fat_node.specs.Node.{Run, NodeAt, prev_at, next_at}
use Rattle.fat_node.specs.declared.Node.{Node}
use Rattle.fat_table.specs.Chain.{total}
use Rattle.salvage.specs.Follow.{salvage, follow, salvaged}
use Rattle.salvage.specs.Calls.{Followed, chain_rows, chain_done}

-- a node stands at block b, and its previous is p
pub record Looked (n : ℕ) (t : Bytes) (p b size next : ℕ) : Type 0 where
  pub node : NodeAt t n b size
  pub prev : prev_at t b ≡ p
  pub on : next ≡ next_at t b

-- such a node; or why every walk that comes to block b after p stops there
abbrev pub LookSays : (n : ℕ) (t : Bytes) (p b : ℕ) → Result Node Fault → Type 0
LookSays n t p b (Ok x) = Looked n t p b x.size x.next
LookSays n t p b (Err why) = (k : ℕ) (seen : List Run) → follow (suc k) n t seen p (suc b) ≡ salvage seen why

-- r tells whether a node can be read at block b
pub record Tells (n : ℕ) (t : Bytes) (b : ℕ) (r : Bool) : Type 0 where
  pub yes : r ≡ true → (b < n) × ((s : ℕ) × NodeAt t n b s)
  pub no : r ≡ false → (s : ℕ) → NodeAt t n b s → ⊥

-- every place is below m
abbrev pub Below : (w : List ℕ) (m : ℕ) → Type 0
Below w m = (x : ℕ) → get_or w x 0 < m

-- none of the s places from b on had the mark m, and all have it now; the others are as they were
pub record Taken (w : List ℕ) (b s m : ℕ) (w' : List ℕ) : Type 0 where
  pub free : (x : ℕ) → b ≤ x → x < b + s → get_or w x 0 ≡ m → ⊥
  pub marked : (x : ℕ) → b ≤ x → x < b + s → get_or w' x 0 ≡ m
  pub before : (x : ℕ) → x < b → get_or w' x 0 ≡ get_or w x 0
  pub after : (x : ℕ) → b + s ≤ x → get_or w' x 0 ≡ get_or w x 0

-- one of the s places from b on had the mark
pub record Clash (w : List ℕ) (b s m : ℕ) : Type 0 where
  pub at : ℕ
  pub low : b ≤ at
  pub high : at < b + s
  pub taken : get_or w at 0 ≡ m

-- the one or the other; no place is over the mark that was not
pub record TakeSays (w : List ℕ) (b s m : ℕ) (w' : List ℕ) (r : Bool) : Type 0 where
  pub yes : r ≡ true → Taken w b s m w'
  pub no : r ≡ false → Clash w b s m
  pub least : Below w (m + 1) → Below w' (m + 1)

-- what is left of a walk when it ends, with the mark m
pub record WalkSays (n : ℕ) (t : Bytes) (b m count : ℕ) (why : Fault) (w' : List ℕ) : Type 0 where
  pub sum : count ≡ total (salvaged n t b).runs
  pub ended : why ≡ (salvaged n t b).why
  pub long : length w' ≡ n
  pub least : Below w' (m + 1)

-- what the call gives where the sizes fit, and the work list then
pub record ChainSays (n : ℕ) (t : Bytes) (b : ℕ) (list : List ℕ) (o : Followed) (w' : List ℕ) : Type 0 where
  pub given : First (chain_rows n t b list) (chain_done n t b list) o
  pub clear : w' ≡ replicate n 0
