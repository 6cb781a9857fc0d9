-- What is alike in open records packed and in one record for each inode.
use Rattle.std.specs.Prelude.{◌≡◌, List, ℕ, ◌≤◌, length}
use Rattle.tree_packed.specs.Opens.{Opens, record_of}
use Rattle.tree_opens.specs.Opens.{opened}

-- d has one record for each inode that a table has room for, and they are those of the packed list
pub record Alike (d : List ℕ) (o : Opens) : Type 0 where
  pub long : 65536 ≤ length d
  pub records : (x : ℕ) → record_of o x ≡ opened d x
