-- Open records packed: a list with two places a record, the inode and its record, and the number k of records in it.
use Rattle.std.specs.Prelude.{List, ℕ, zero, suc, ◌+◌, ◌*◌, ◌≤◌, ◌<◌, eqb, ltb, length, get_or}
use Rattle.links.specs.Change.{pick}

abbrev pub inode_at : List ℕ → ℕ → ℕ
inode_at l i = get_or l (2 * i) 0

abbrev pub record_at : List ℕ → ℕ → ℕ
record_at l i = get_or l (2 * i + 1) 0

-- k records, rising by inode, none of inode 0 and none with nothing open. The odd place of a list is never used
pub record Packed (k : ℕ) (l : List ℕ) : Type 0 where
  pub fits : 2 * k ≤ length l
  pub named : (i : ℕ) → i < k → 0 < inode_at l i
  pub rising : (i : ℕ) → i + 1 < k → inode_at l i < inode_at l (i + 1)
  pub held : (i : ℕ) → i < k → 0 < record_at l i

-- the record of inode x, 0 where none is listed
unfoldable pub rec : ℕ → List ℕ → ℕ → ℕ
rec zero l x = 0
rec (suc k) l x = pick (eqb (inode_at l k) x) (record_at l k) (rec k l x)

-- how many of the inodes listed are below x: the place at which x stands, or would stand
unfoldable pub below : ℕ → List ℕ → ℕ → ℕ
below zero l x = 0
below (suc k) l x = below k l x + pick (ltb (inode_at l k) x) 1 0

-- j is that place, as a search finds it
pub record Place (k : ℕ) (l : List ℕ) (x j : ℕ) : Type 0 where
  pub within : j ≤ k
  pub under : (i : ℕ) → i < j → inode_at l i < x
  pub over : (i : ℕ) → j ≤ i → i < k → x ≤ inode_at l i
