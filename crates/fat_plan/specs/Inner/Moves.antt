-- What the functions say to each other that check plans and find them.
use Rattle.std.specs.Prelude.{◌≡◌, List, Bool, true, ℕ, ◌+◌, ◌≤◌, ◌<◌, length, take}
use Rattle.fat_node.specs.Entry.{Bytes}
use Rattle.fat_table.specs.Chain.{total, file_at}
use Rattle.fat_table.specs.Layout.{covers}
use Rattle.fat_promises.specs.Blocks.{blocks_of}
use Rattle.fat_carve.specs.Carve.{fit}
use Rattle.fat_merge.specs.Merge.{stretches}
use Rattle.fat_merge.specs.Inner.Sweep.{Ahead}
use Rattle.fat_plan.specs.Plan.{moves, target_of, Free}

-- r says whether P is so
pub record Says (r : Bool) (P : Type 0) : Type 0 where
  pub so : r ≡ true → P
  pub if : P → r ≡ true

-- the k blocks of the file at block b stand at the front of the list w of n places
pub record BlocksIn (n : ℕ) (t : Bytes) (b k : ℕ) (w : List ℕ) : Type 0 where
  pub count : k ≡ total (file_at n t b)
  pub some : 1 ≤ k
  pub few : k ≤ n
  pub is : take k w ≡ blocks_of (file_at n t b)
  pub long : length w ≡ n

-- the plan moves the first k blocks of the list w to consecutive ones
abbrev pub Moves : (plan w : List ℕ) (k : ℕ) → Type 0
Moves plan w k = plan ≡ moves (take k w) (target_of plan)

-- the k blocks from m on are all free
abbrev pub Open : (n : ℕ) (t : Bytes) (m k : ℕ) → Type 0
Open n t m k = (x : ℕ) → m ≤ x → x < m + k → Free n t x

-- the same of the blocks at which c is not 0, below n
abbrev pub Stands : (n : ℕ) (c : ℕ → ℕ) (m k : ℕ) → Type 0
Stands n c m k = (x : ℕ) → m ≤ x → x < m + k → 1 ≤ covers x (stretches n 0 c)

-- a sweep by the marks w says of every colouring that agrees with them whether k blocks from m on stand
abbrev pub StandsSaid : (n : ℕ) (t : Bytes) (w : List ℕ) (m k : ℕ) → Bool → Type 0
StandsSaid n t w m k r = (c : ℕ → ℕ) → Ahead n t w c 0 → Says r (Stands n c m k)

-- and which stretch of k blocks is the first
abbrev pub LowestSaid : (n : ℕ) (t : Bytes) (w : List ℕ) (k r : ℕ) → Type 0
LowestSaid n t w k r = (c : ℕ → ℕ) → Ahead n t w c 0 → r ≡ fit k (stretches n 0 c)
