-- What the applying of a plan promises: the tests of the checker, and what Done gives. n is the number of blocks, t the table, d the data, l the block
-- length, b the given first block.
use Rattle.std.specs.Prelude.{List, ℕ, ◌*◌, length}
use Rattle.std.proofs.lemmas.List.Edits.{sets}
use Rattle.order.specs.First.{Row, First}
use Rattle.order.specs.Giving.{giving}
use Rattle.order.specs.Answer.{Answer}
use Rattle.order.specs.Answer.{Done}
use Rattle.fat_node.specs.Entry.{Bytes}
use Rattle.fat_node.specs.Sizes.{blocks}
use Rattle.fat_table.specs.Chain.{total, file_at}
use Rattle.fat_promises.specs.Blocks.{blocks_of, bytes_at}
use Rattle.fat_promises.specs.Promise.{Beside, ChangePromise, change_rows}
use Rattle.fat_place.specs.Place.{applied}
use Rattle.fat_plan.specs.Plan.{target_of}
use Rattle.fat_plan.specs.Promise.{check_tests}

-- the data with the bytes of the file at block b standing from block m on
unfoldable pub copied : (n : ℕ) (t d : Bytes) (l b m : ℕ) → Bytes
copied n t d l b m = sets d (m * l) (bytes_at (total (file_at n t b) * l) d l (blocks_of (file_at n t b)) 0)

-- the answer, the new first block of the file, the table and the data afterwards
pub record Apply : Type 0 where
  pub answer : Answer
  pub first : ℕ
  pub table : Bytes
  pub bytes : Bytes

-- the same, by its parts
abbrev pub apply_gives : (answer : Answer) (first : ℕ) (table bytes : Bytes) → Apply
apply_gives answer first table bytes = record { answer = answer; first = first; table = table; bytes = bytes }

-- its refusals are the checker's: no first block, the table and the data as they were
abbrev pub apply_rows : (n : ℕ) (t d : Bytes) (b : ℕ) (plan : List ℕ) → List (Row Apply)
apply_rows n t d b plan = giving (λ a. apply_gives a 0 t d) (check_tests n t b plan)

-- Done: the file is one node at the first target, its old nodes stand before the free chain without the targets, and the targets have its bytes
abbrev pub apply_done : (n : ℕ) (t d : Bytes) (l b : ℕ) (plan : List ℕ) → Apply
apply_done n t d l b plan = apply_gives Done (target_of plan) (applied n t b (target_of plan)) (copied n t d l b (target_of plan))

-- what apply gives on a sound table
abbrev pub ApplySound : (n : ℕ) (t d : Bytes) (l b : ℕ) (plan : List ℕ) (o : Apply) → Type 0
ApplySound n t d l b plan o = First (apply_rows n t d b plan) (apply_done n t d l b plan) o

-- what it gives there to a side that has tested its table once: the block length is judged first
abbrev pub ApplyTested : (n : ℕ) (t d : Bytes) (l b : ℕ) (plan : List ℕ) (o : Apply) → Type 0
ApplyTested n t d l b plan o = First (change_rows (λ a. apply_gives a 0 t d) l (apply_rows n t d b plan)) (apply_done n t d l b plan) o

-- the promise of apply
abbrev pub ApplyPromise : (t d : Bytes) (l : ℕ) (work : List ℕ) (b : ℕ) (plan : List ℕ) → Beside Apply → Type 0
ApplyPromise t d l work b plan =
    ChangePromise (λ a. apply_gives a 0 t d) t (length d) l work (apply_rows (blocks t) t d b plan) (apply_done (blocks t) t d l b plan)
