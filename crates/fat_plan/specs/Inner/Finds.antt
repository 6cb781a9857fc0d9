-- What the planner's judge tells its step.
use Rattle.std.specs.Prelude.{◌≡◌, List, ◌++◌, Result, Ok, Err, ℕ, suc, ◌+◌, ◌*◌, ◌≤◌, drop}
use Rattle.order.specs.Given.{Given}
use Rattle.order.specs.declared.Refusal.{Refusal}
use Rattle.fat_node.specs.Entry.{Bytes}
use Rattle.fat_table.specs.Sound.{File}
use Rattle.fat_table.specs.Chain.{total, file_at}
use Rattle.fat_promises.specs.Blocks.{blocks_of}
use Rattle.fat_plan.specs.Plan.{moves, lowest}
use Rattle.fat_plan.specs.Promise.{find_tests}
use Rattle.fat_plan.specs.declared.planner.Found.{Found}

-- a plan for the file at block b that moves it to the blocks from m on fits into room places
pub record FindAt (n : ℕ) (t : Bytes) (b room m : ℕ) : Type 0 where
  pub file : File t n b
  pub within : m + total (file_at n t b) ≤ n
  pub enough : 2 * total (file_at n t b) ≤ room

-- and m is the lowest such block, k the number of the file's blocks
pub record FoundAt (n : ℕ) (t : Bytes) (b room k m : ℕ) : Type 0 where
  pub at : FindAt n t b room m
  pub count : k ≡ total (file_at n t b)
  pub least : lowest n t (total (file_at n t b)) ≡ suc m

-- what the judge of a find tells
abbrev pub FindPlanned : (n : ℕ) (t : Bytes) (b room : ℕ) → Result Found Refusal → Type 0
FindPlanned n t b room (Err why) = Given (find_tests n t b room) (Err why)
FindPlanned n t b room (Ok found) = FoundAt n t b room found.count found.target

-- the list l' is the list l with the moves of the file at block b to the blocks from m on
pub record Planned (n : ℕ) (t : Bytes) (b : ℕ) (l : List ℕ) (m : ℕ) (l' : List ℕ) : Type 0 where
  pub is : l' ≡ moves (blocks_of (file_at n t b)) m ++ drop (2 * total (file_at n t b)) l
