-- Chains that stand in a table, and where a block of one lies.
use Rattle.std.specs.Prelude.{◌≡◌, List, [], ◌∷◌, ◌++◌, ℕ, suc, ◌+◌, ◌*◌, ◌≤◌, ◌<◌, length}
use Rattle.fat_node.specs.Entry.{Bytes}
use Rattle.fat_node.specs.Node.{Run, run, NodeAt, prev_at, next_at}
use Rattle.fat_table.specs.Chain.{total, chain_at}
use Rattle.fat_table.specs.Layout.{hits, covers, empties}
use Rattle.fat_table.specs.Steps.{first}
use Rattle.fat_table.specs.Holds.{Laid}
use Rattle.fat_walk.specs.declared.Sought.{Sought}
use Rattle.fat_walk.specs.declared.Sought.TheVariants.{Within, Past}

-- a node stands at block b, and its links are indexes of blocks
pub record Standing (n : ℕ) (t : Bytes) (b : ℕ) : Type 0 where
  pub few : n ≤ 1000000
  pub room : length t ≡ 8 * (n + 1)
  pub size : ℕ
  pub node : NodeAt t n b size
  pub prev : prev_at t b ≤ n
  pub next : next_at t b ≤ n

-- the same of the node that an index names, if it names one
abbrev pub StandingAt : ℕ → Bytes → ℕ → Type 0
StandingAt n t i = (b : ℕ) → i ≡ b + 1 → Standing n t b

-- a whole chain stands in the table
pub record Chain (n : ℕ) (t : Bytes) (l : List Run) : Type 0 where
  pub few : n ≤ 1000000
  pub room : length t ≡ 8 * (n + 1)
  pub laid : Laid t l 0
  pub positive : empties l ≡ 0
  pub inside : (x : ℕ) → covers x l ≤ hits x (run 0 n)
  pub sum : total l ≤ n

-- the chain that an index starts
pub record ChainFrom (n : ℕ) (t : Bytes) (i : ℕ) : Type 0 where
  pub chain : Chain n t (chain_at t n i)
  pub at : first (chain_at t n i) ≡ i

-- the m-th block of the node at block b is the k-th of a chain
pub record Inside (l : List Run) (k b m : ℕ) : Type 0 where
  pub before : List Run
  pub node : Run
  pub after : List Run
  pub is : l ≡ before ++ node ∷ after
  pub at : node.start ≡ b
  pub sum : k ≡ total before + m
  pub some : 1 ≤ m
  pub fits : m ≤ node.size

-- index i names the last node of a chain, or none in a chain of none
pub data LastIs (l : List Run) (i : ℕ) : Type 0 where
  none : l ≡ [] → i ≡ 0 → LastIs l i
  node : (before : List Run) (y : Run) → l ≡ before ++ y ∷ [] → i ≡ suc y.start → LastIs l i

-- a chain ends m blocks before its k-th
pub record Beyond (l : List Run) (k i m : ℕ) : Type 0 where
  pub last : LastIs l i
  pub sum : k ≡ total l + m
  pub some : 1 ≤ m

-- what `seek` says of the k-th block of a chain
abbrev pub SeekSays : List Run → ℕ → Sought → Type 0
SeekSays l k (Within b m) = Inside l k b m
SeekSays l k (Past i m) = Beyond l k i m

-- a walk along a chain to its k-th block: index i names the next node, index last the one passed last, and m blocks are to go
pub record Seeking (l : List Run) (k i last m : ℕ) : Type 0 where
  pub passed : List Run
  pub rest : List Run
  pub is : l ≡ passed ++ rest
  pub at : first rest ≡ i
  pub end : LastIs passed last
  pub sum : k ≡ total passed + m
  pub some : 1 ≤ m

-- such a walk is under way along some chain of the table
pub record Underway (n : ℕ) (t : Bytes) (i last m : ℕ) : Type 0 where
  pub chain : List Run
  pub sought : ℕ
  pub stands : Chain n t chain
  pub at : Seeking chain sought i last m

-- a node of some chain of the table is at block b
pub record Amid (n : ℕ) (t : Bytes) (b : ℕ) : Type 0 where
  pub chain : List Run
  pub sought : ℕ
  pub part : ℕ
  pub stands : Chain n t chain
  pub at : Inside chain sought b part

-- the last node of a chain is at block b
pub record LastAt (l : List Run) (b : ℕ) : Type 0 where
  pub before : List Run
  pub node : Run
  pub is : l ≡ before ++ node ∷ []
  pub at : node.start ≡ b

-- r is the smaller of two numbers
pub record Least (a b r : ℕ) : Type 0 where
  pub left : r ≤ a
  pub right : r ≤ b
  pub one : r < a → r ≡ b
