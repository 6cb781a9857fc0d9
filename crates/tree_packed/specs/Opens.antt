-- The open records of one table's inodes, packed: the list, and the number of records in it.
use Rattle.std.specs.Prelude.{List, ℕ, Option, Some, None}
use Rattle.tree_packed.specs.Packed.{Packed, rec}
use Rattle.tree_packed.specs.Put.{IsFull, put_of}

pub record Opens : Type 0 where
  pub count : ℕ
  pub list : List ℕ

abbrev pub opens : (count : ℕ) (list : List ℕ) → Opens
opens count list = record { count = count; list = list }

-- packed as they must be: no more records than places, rising by inode, none of inode 0 and none with nothing open
abbrev pub InOrder : Opens → Type 0
InOrder o = Packed o.count o.list

-- the record of inode x, 0 where none is listed
abbrev pub record_of : (o : Opens) (x : ℕ) → ℕ
record_of o x = rec o.count o.list x

-- inode x is not listed, and every pair of places is taken
abbrev pub NoPlace : (o : Opens) (x : ℕ) → Type 0
NoPlace o x = IsFull o.count o.list x

-- how many records there are after a put: as many as before where it found no place
abbrev pub many : (before : ℕ) → Option ℕ → ℕ
many before (Some count) = count
many before None = before

-- the records once inode x has the record r: inserted, replaced or, where r is 0, taken out; as they were where there is no place for it
abbrev pub with_record : (o : Opens) (x r : ℕ) → Opens
with_record o x r = opens (many o.count (put_of o.count o.list x r).kept) (put_of o.count o.list x r).list
