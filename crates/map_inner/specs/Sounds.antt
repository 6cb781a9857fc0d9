-- What the calls with a map give on a sound table: what the call without one gives, and the map of the table afterwards, refused or not.
use Rattle.std.specs.Prelude.{◌≡◌, List, ℕ}
use Rattle.fat_node.specs.Entry.{Bytes}
use Rattle.fat_promises.specs.Calls.{Create, CreateSound, Change, ResizeSound, DeleteSound}
use Rattle.map_inner.specs.Map.{map_of}

-- create of so many blocks
pub record CreateMapped (n : ℕ) (t : Bytes) (count : ℕ) (o : Create) (map : List ℕ) : Type 0 where
  pub sound : CreateSound n t count o
  pub kept : map ≡ map_of n o.table

-- resize of the file at block b
pub record ResizeMapped (n : ℕ) (t : Bytes) (b count : ℕ) (o : Change) (map : List ℕ) : Type 0 where
  pub sound : ResizeSound n t b count o
  pub kept : map ≡ map_of n o.table

-- delete of the file at block b
pub record DeleteMapped (n : ℕ) (t : Bytes) (b : ℕ) (o : Change) (map : List ℕ) : Type 0 where
  pub sound : DeleteSound n t b o
  pub kept : map ≡ map_of n o.table
