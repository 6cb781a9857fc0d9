-- What the theorems over merges say: which files two tables have, calls on a table and its data with merges among them, and histories with merges.
use Rattle.std.specs.Prelude.{◌≡◌, List, ℕ}
use Rattle.order.specs.Beside.{Beside}
use Rattle.order.specs.Answer.{Done}
use Rattle.fat_node.specs.Entry.{Bytes}
use Rattle.fat_table.specs.Sound.{File}
use Rattle.fat_table.specs.Chain.{file_at}
use Rattle.fat_promises.specs.Calls.{Create, CreatePromise, Change, ResizePromise, DeletePromise}
use Rattle.fat_history.specs.Away.{Away}
use Rattle.fat_history.specs.History.{History}
use Rattle.fat_merge.specs.Promise.{MergePromise}

-- two tables of n blocks have the same files, each with the same chain
pub record SameFiles (n : ℕ) (t t' : Bytes) : Type 0 where
  pub stays : (b : ℕ) → File t n b → File t' n b
  pub chain : (b : ℕ) → File t n b → file_at n t' b ≡ file_at n t b
  pub only : (b : ℕ) → File t' n b → File t n b

-- calls as in Away, none of which is given the block b, and merges anywhere among them, whatever each answers
pub data Calls (l b : ℕ) (t d : Bytes) : Bytes → Bytes → Type 0 where
  away : (t' d' : Bytes) → Away l b t d t' d' → Calls l b t d t' d'
  merges : (t₁ d₁ t' d' : Bytes) → Calls l b t d t₁ d₁ → (work : List ℕ) (o : Beside Change) → MergePromise t₁ l work o
      → Away l b o.given.table d₁ t' d'
      → Calls l b t d t' d'

-- a history with merges, that ends in the table: one without, which begins with format, and then any of the calls, each answered Done. As in History a
-- step is the call's own promise; d is the length of the data, l the block length
pub data MergeHistory : Bytes → Type 0 where
  plain : (k : ℕ) (t : Bytes) → History k t → MergeHistory t
  creates : (t : Bytes) → MergeHistory t → (d l : ℕ) (work : List ℕ) (count : ℕ) (o : Beside Create) → CreatePromise t d l work count o
      → o.given.answer ≡ Done
      → MergeHistory o.given.table
  resizes : (t : Bytes) → MergeHistory t → (d l : ℕ) (work : List ℕ) (b count : ℕ) (o : Beside Change) → ResizePromise t d l work b count o
      → o.given.answer ≡ Done
      → MergeHistory o.given.table
  deletes : (t : Bytes) → MergeHistory t → (d l : ℕ) (work : List ℕ) (b : ℕ) (o : Beside Change) → DeletePromise t d l work b o
      → o.given.answer ≡ Done
      → MergeHistory o.given.table
  merges : (t : Bytes) → MergeHistory t → (l : ℕ) (work : List ℕ) (o : Beside Change) → MergePromise t l work o
      → o.given.answer ≡ Done
      → MergeHistory o.given.table
