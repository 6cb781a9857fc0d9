-- What the calls with both maps give on a sound table: what the call without maps gives, which tests the block length alone before its own rows; and
-- both maps of the table afterwards, refused or not.
use Rattle.std.specs.Prelude.{◌≡◌, List, ℕ}
use Rattle.order.specs.First.{First}
use Rattle.fat_node.specs.Entry.{Bytes}
use Rattle.fat_promises.specs.Promise.{change_rows}
use Rattle.fat_promises.specs.Calls.{Create, create_gives, create_rows, create_done, Change, change_gives, resize_rows, resize_done, delete_rows, delete_done}
use Rattle.map_inner.specs.Map.{map_of}
use Rattle.fat_first.specs.Firsts.{firsts_of}

-- create of so many blocks
pub record CreateFirst (n : ℕ) (t : Bytes) (l count : ℕ) (o : Create) (map firsts : List ℕ) : Type 0 where
  pub sound : First (change_rows (λ a. create_gives a 0 t) l (create_rows n t count)) (create_done n t count) o
  pub free : map ≡ map_of n o.table
  pub first : firsts ≡ firsts_of n o.table

-- resize of the file at block b
pub record ResizeFirst (n : ℕ) (t : Bytes) (l b count : ℕ) (o : Change) (map firsts : List ℕ) : Type 0 where
  pub sound : First (change_rows (λ a. change_gives a t) l (resize_rows n t b count)) (resize_done n t b count) o
  pub free : map ≡ map_of n o.table
  pub first : firsts ≡ firsts_of n o.table

-- delete of the file at block b
pub record DeleteFirst (n : ℕ) (t : Bytes) (l b : ℕ) (o : Change) (map firsts : List ℕ) : Type 0 where
  pub sound : First (change_rows (λ a. change_gives a t) l (delete_rows n t b)) (delete_done n t b) o
  pub free : map ≡ map_of n o.table
  pub first : firsts ≡ firsts_of n o.table
