-- What the checker and the planner promise: their tests, in order, and what Done gives. n is the number of blocks, t the table, d the length of the data,
-- l the block length, b the given first block.
use Rattle.std.specs.Prelude.{◌≡◌, List, [], ◌∷◌, ◌++◌, ℕ, ◌+◌, ◌-◌, ◌*◌, ◌<◌, length, drop}
use Rattle.order.specs.First.{Row, row, First}
use Rattle.order.specs.Giving.{giving}
use Rattle.order.specs.Answer.{Answer}
use Rattle.order.specs.Answer.{Done, InvalidValue, NotAFile, NoSpace, ListTooShort}
use Rattle.fat_node.specs.Entry.{Bytes}
use Rattle.fat_node.specs.Sizes.{blocks}
use Rattle.fat_table.specs.Sound.{File}
use Rattle.fat_table.specs.Chain.{total, file_at}
use Rattle.fat_promises.specs.Blocks.{blocks_of}
use Rattle.fat_promises.specs.Promise.{Beside, Promise}
use Rattle.fat_promises.specs.Calls.{Listing, list_gives}
use Rattle.fat_plan.specs.Plan.{moves, Accepted, lowest}

-- check --------------------------------------------------------------------------------------------------------------------------------------------

-- its tests: no file, and a plan that is not accepted
abbrev pub check_tests : (n : ℕ) (t : Bytes) (b : ℕ) (plan : List ℕ) → List (Row Answer)
check_tests n t b plan = row (File t n b → ⊥) NotAFile ∷ row (Accepted n t b plan → ⊥) InvalidValue ∷ []

-- no test applies
pub record MayCheck (n : ℕ) (t : Bytes) (b : ℕ) (plan : List ℕ) : Type 0 where
  pub file : File t n b
  pub accepted : Accepted n t b plan

-- what check gives on a sound table: its number alone
abbrev pub CheckSound : (n : ℕ) (t : Bytes) (b : ℕ) (plan : List ℕ) (o : Answer) → Type 0
CheckSound n t b plan o = First (check_tests n t b plan) Done o

-- the promise of check
abbrev pub CheckPromise : (t : Bytes) (d l : ℕ) (work : List ℕ) (b : ℕ) (plan : List ℕ) → Beside Answer → Type 0
CheckPromise t d l work b plan = Promise (λ a. a) t d l work (check_tests (blocks t) t b plan) Done

-- find ---------------------------------------------------------------------------------------------------------------------------------------------

-- the tests of find, for a list of room places: no file, nowhere enough consecutive free blocks, and fewer than two places a block
abbrev pub find_tests : (n : ℕ) (t : Bytes) (b room : ℕ) → List (Row Answer)
find_tests n t b room =
    row (File t n b → ⊥) NotAFile
    ∷ row (lowest n t (total (file_at n t b)) ≡ 0) NoSpace
    ∷ row (room < 2 * total (file_at n t b)) ListTooShort
    ∷ []

-- its refusals: no moves, and the list as it was
abbrev pub find_rows : (n : ℕ) (t : Bytes) (b : ℕ) (list : List ℕ) → List (Row Listing)
find_rows n t b list = giving (λ a. list_gives a 0 list) (find_tests n t b (length list))

-- Done: the number of moves, and the moves to the lowest place; later places stay
abbrev pub find_done : (n : ℕ) (t : Bytes) (b : ℕ) (list : List ℕ) → Listing
find_done n t b list =
    list_gives Done (total (file_at n t b))
    (moves (blocks_of (file_at n t b)) (lowest n t (total (file_at n t b)) - 1) ++ drop (2 * total (file_at n t b)) list)

-- what find gives on a sound table
abbrev pub FindSound : (n : ℕ) (t : Bytes) (b : ℕ) (list : List ℕ) (o : Listing) → Type 0
FindSound n t b list o = First (find_rows n t b list) (find_done n t b list) o

-- the promise of find
abbrev pub FindPromise : (t : Bytes) (d l : ℕ) (work : List ℕ) (b : ℕ) (list : List ℕ) → Beside Listing → Type 0
FindPromise t d l work b list = Promise (λ a. list_gives a 0 list) t d l work (find_rows (blocks t) t b list) (find_done (blocks t) t b list)
