-- Where a block lies: in the free chain, or in the chain of one file.
use Rattle.std.specs.Prelude.{◌≡◌, ◌≢◌, ◌⊎◌, ℕ}
use Rattle.fat_node.specs.Entry.{Bytes}
use Rattle.fat_table.specs.Sound.{File}
use Rattle.fat_table.specs.Chain.{free_at, file_at}
use Rattle.fat_table.specs.Layout.{covers}

-- block x lies in one node of the free chain, and in no node of a file
pub record InFree (n : ℕ) (t : Bytes) (x : ℕ) : Type 0 where
  pub once : covers x (free_at n t) ≡ 1
  pub files : (b : ℕ) → File t n b → covers x (file_at n t b) ≡ 0

-- block x lies in one node of one file, in no node of the free chain, and in no node of another file
pub record InFile (n : ℕ) (t : Bytes) (x : ℕ) : Type 0 where
  pub first : ℕ
  pub file : File t n first
  pub once : covers x (file_at n t first) ≡ 1
  pub free : covers x (free_at n t) ≡ 0
  pub others : (b : ℕ) → File t n b → b ≢ first → covers x (file_at n t b) ≡ 0

-- one or the other
abbrev pub OneChain : (n : ℕ) (t : Bytes) (x : ℕ) → Type 0
OneChain n t x = InFree n t x ⊎ InFile n t x
