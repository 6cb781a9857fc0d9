-- What the theorems over applied plans say: where the file is afterwards, calls on a table and its data with applied plans among them, and histories with
-- applied plans.
use Rattle.std.specs.Prelude.{◌≡◌, List, [], ◌∷◌, ◌≢◌, ℕ, ◌+◌, ◌≤◌}
use Rattle.order.specs.Beside.{Beside}
use Rattle.order.specs.Answer.{Done}
use Rattle.fat_node.specs.Entry.{Bytes}
use Rattle.fat_node.specs.Node.{run}
use Rattle.fat_node.specs.Sizes.{blocks}
use Rattle.fat_table.specs.Sound.{File}
use Rattle.fat_table.specs.Chain.{total, file_at}
use Rattle.fat_promises.specs.Blocks.{blocks_of, bytes_at}
use Rattle.fat_promises.specs.Calls.{size_of, Create, CreatePromise, Change, ResizePromise, DeletePromise}
use Rattle.fat_merge.specs.Promise.{MergePromise}
use Rattle.fat_merge.specs.Merges as merge
use Rattle.fat_apply.specs.Apply.{Apply, ApplyPromise}

-- the file at block b of t and d is in t' and d' a file of one node from block m on, and every stretch of it holds the same bytes
pub record MadeWhole (l b : ℕ) (t d : Bytes) (m : ℕ) (t' d' : Bytes) : Type 0 where
  pub file : File t' (blocks t) m
  pub chain : file_at (blocks t) t' m ≡ run m (total (file_at (blocks t) t b)) ∷ []
  pub bytes : (many pos : ℕ) → pos + many ≤ size_of (blocks t) t l b
      → bytes_at many d' l (blocks_of (file_at (blocks t) t' m)) pos ≡ bytes_at many d l (blocks_of (file_at (blocks t) t b)) pos

-- calls as in the merge's Calls, none of which is given the block b, and applied plans anywhere among them, whatever each answers
pub data Calls (l b : ℕ) (t d : Bytes) : Bytes → Bytes → Type 0 where
  plain : (t' d' : Bytes) → merge.Calls l b t d t' d' → Calls l b t d t' d'
  applies : (t₁ d₁ t' d' : Bytes) → Calls l b t d t₁ d₁ → (work : List ℕ) (c : ℕ) (plan : List ℕ) (o : Beside Apply) → c ≢ b
      → ApplyPromise t₁ d₁ l work c plan o
      → merge.Calls l b o.given.table o.given.bytes t' d'
      → Calls l b t d t' d'

-- a history with applied plans, that ends in the table: one without, and then any of the calls, each answered Done. As in MergeHistory a step is the call's
-- own promise; d is the length of the data, or the data, and l the block length
pub data ApplyHistory : Bytes → Type 0 where
  plain : (t : Bytes) → merge.MergeHistory t → ApplyHistory t
  creates : (t : Bytes) → ApplyHistory t → (d l : ℕ) (work : List ℕ) (count : ℕ) (o : Beside Create) → CreatePromise t d l work count o
      → o.given.answer ≡ Done
      → ApplyHistory o.given.table
  resizes : (t : Bytes) → ApplyHistory t → (d l : ℕ) (work : List ℕ) (b count : ℕ) (o : Beside Change) → ResizePromise t d l work b count o
      → o.given.answer ≡ Done
      → ApplyHistory o.given.table
  deletes : (t : Bytes) → ApplyHistory t → (d l : ℕ) (work : List ℕ) (b : ℕ) (o : Beside Change) → DeletePromise t d l work b o
      → o.given.answer ≡ Done
      → ApplyHistory o.given.table
  merges : (t : Bytes) → ApplyHistory t → (l : ℕ) (work : List ℕ) (o : Beside Change) → MergePromise t l work o
      → o.given.answer ≡ Done
      → ApplyHistory o.given.table
  applies : (t : Bytes) → ApplyHistory t → (d : Bytes) (l : ℕ) (work : List ℕ) (b : ℕ) (plan : List ℕ) (o : Beside Apply) → ApplyPromise t d l work b plan o
      → o.given.answer ≡ Done
      → ApplyHistory o.given.table
