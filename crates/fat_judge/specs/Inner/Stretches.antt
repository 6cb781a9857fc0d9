-- Where the bytes of a file lie, for read and write.
use Rattle.std.specs.Prelude.{◌≡◌, List, ◌∷◌, ◌++◌, Bool, true, false, ℕ, suc, ◌+◌, ◌*◌, ◌≤◌, ◌<◌}
use Rattle.fat_node.specs.Entry.{Bytes}
use Rattle.fat_node.specs.Node.{Run, next_at}
use Rattle.fat_table.specs.Chain.{total, size_at}
use Rattle.fat_walk.specs.Inner.Chains.{Chain}

-- byte p of a file with this chain is byte f of the node that index i names
pub record CursorAt (c : List Run) (l p i f : ℕ) : Type 0 where
  pub before : List Run
  pub node : Run
  pub after : List Run
  pub is : c ≡ before ++ node ∷ after
  pub at : i ≡ suc node.start
  pub sum : p ≡ total before * l + f
  pub fits : f < node.size * l

-- r tells whether a file with this chain has many bytes from byte p on
pub record Reaches (c : List Run) (l p many : ℕ) (r : Bool) : Type 0 where
  pub yes : r ≡ true → p + many ≤ total c * l
  pub no : r ≡ false → total c * l < p + many

-- a chain of the table has many bytes from byte p on, and the first of them is byte f of the node that index i names
pub record CarriesAt (n : ℕ) (t : Bytes) (l : ℕ) (c : List Run) (p many i f : ℕ) : Type 0 where
  pub stands : Chain n t c
  pub room : p + many ≤ total c * l
  pub at : p < total c * l → CursorAt c l p i f

-- it is so of some chain and byte
pub record Carries (n : ℕ) (t : Bytes) (l many i f : ℕ) : Type 0 where
  pub chain : List Run
  pub pos : ℕ
  pub at : CarriesAt n t l chain pos many i f

-- a stretch of the data: len bytes from place at on are those of the node at block b from its byte f on, as many as wanted or all that the node has
pub record StretchOf (t : Bytes) (l b f want at len next : ℕ) : Type 0 where
  pub place : at ≡ b * l + f
  pub most : len ≤ want
  pub fits : f + len ≤ size_at t b * l
  pub all : len < want → f + len ≡ size_at t b * l
  pub on : next ≡ next_at t b
