-- What the functions that write a history say.
use Rattle.std.specs.Prelude.{◌≡◌, List, ℕ, ◌+◌, ◌*◌, length}
use Rattle.std.proofs.lemmas.List.Edits.{sets}
use Rattle.fat_node.specs.Entry.{Bytes}
use Rattle.fat_node.specs.Node.{Run}
use Rattle.fat_table.specs.Chain.{total, file_at}
use Rattle.fat_table.specs.Counts.{starts}
use Rattle.fat_retrace.specs.History.{Call, gives, marked, joins_all, encoded}

-- the calls h are written into the list as the calls from the k-th on, and no other place is; the r-th is the next
pub record Written (h : List Call) (k : ℕ) (list : List ℕ) (r : ℕ) (list' : List ℕ) : Type 0 where
  pub next : r ≡ k + length h
  pub is : list' ≡ sets list (2 * k) (encoded h)

-- the same for the deletes of the nodes of a chain, of m blocks
pub record GivenUp (l : List Run) (k : ℕ) (list : List ℕ) (r m : ℕ) (list' : List ℕ) : Type 0 where
  pub written : Written (gives l) k list r list'
  pub blocks : m ≡ total l

-- the calls that put together the file which starts at block b, if one does
abbrev pub joins_at : ℕ → Bytes → ℕ → List Call
joins_at n t b = joins_all (marked (starts t b) (file_at n t b))
