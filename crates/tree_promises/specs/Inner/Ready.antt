-- What the calls inside ask for, which test nothing themselves: four tables of fitting sizes that are sound.
use Rattle.std.specs.Prelude.{List, ℕ, ◌/◌, ◌≤◌, ◌<◌, length}
use Rattle.order.specs.First.{Row}
use Rattle.order.specs.Giving.{giving}
use Rattle.order.specs.Answer.{Answer}
use Rattle.tree_table.specs.Field.{field}
use Rattle.tree_table.specs.View.{View, view_of, hash_at, LiveIn}
use Rattle.tree_sound.specs.Sizes.{buckets, dir_room, file_room}
use Rattle.tree_sound.specs.Sound.{Table}
use Rattle.tree_packed.specs.Opens.{Opens, InOrder}
use Rattle.tree_promises.specs.Calls.{live_tests}
use Rattle.tree_sound.specs.Tables.{Tables, SoundIn}

pub record Ready (s : Tables) : Type 0 where
  pub dir_buckets : 0 < buckets s.dir_hash
  pub file_buckets : 0 < buckets s.file_hash
  pub few_dirs : dir_room s.dir_table ≤ 65536
  pub few_files : file_room s.file_table ≤ 65536
  pub sound : SoundIn s

-- and a packed list of open records that is in order
pub record ReadyOpens (s : Tables) (o : Opens) : Type 0 where
  pub ready : Ready s
  pub ordered : InOrder o

-- a table by itself, for the rows that ask only which of its entries are live
abbrev pub alone : (w : ℕ) (t : List ℕ) → View
alone w t = view_of 0 0 0 (field w t) (λ b. 0) (λ p. 0)

-- inode x is live in the table t of width w
abbrev pub LiveAt : (w : ℕ) (t : List ℕ) (x : ℕ) → Type 0
LiveAt w t x = LiveIn (alone w t) x

-- one table t of width w with its hash h, by itself
pub record Single (h t : List ℕ) (w : ℕ) : Type 0 where
  pub wide : 28 ≤ w
  pub some : 0 < buckets h
  pub few : length t / w ≤ 65536
  pub root : ℕ
  pub head : ℕ → ℕ
  pub table : Table (view_of (buckets h) (length t / w) root (field w t) (hash_at h) head)

-- and a packed list of open records that is in order
pub record SingleOpens (h t : List ℕ) (w : ℕ) (o : Opens) : Type 0 where
  pub single : Single h t w
  pub ordered : InOrder o

-- a table with its hash, for the rows that ask for keys
abbrev pub hashed : (w : ℕ) (h t : List ℕ) → View
hashed w h t = view_of (buckets h) 0 0 (field w t) (hash_at h) (λ p. 0)

-- an answer, with one table afterwards; and the rows of a call that sets carried bytes in it
pub record SetOne : Type 0 where
  pub answer : Answer
  pub table : List ℕ

abbrev pub set_gives : (answer : Answer) (table : List ℕ) → SetOne
set_gives answer table = record { answer = answer; table = table }

abbrev pub set_rows : (w : ℕ) (t : List ℕ) (x : ℕ) → List (Row SetOne)
set_rows w t x = giving (λ a. set_gives a t) (live_tests (alone w t) x)
