-- One open record for each of one table's inodes: what the promises of the calls are said over, and what a packed list of records is held against.
use Rattle.std.specs.Prelude.{List, ℕ, get_or, set}

-- the open record of inode x
unfoldable pub opened : (opens : List ℕ) (x : ℕ) → ℕ
opened opens x = get_or opens x 0

-- the records once inode x has the record r
unfoldable pub with_open : (opens : List ℕ) (x r : ℕ) → List ℕ
with_open opens x r = set opens x r
