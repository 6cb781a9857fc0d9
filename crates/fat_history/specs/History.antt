-- A history of the block layer: format, and then create, resize and delete, each answered Done. A step of it is the call's own promise, with its inputs and
-- what it gave. The inputs are numbers with no bound; those of a call that is answered Done are small by its rows, but for the length of its work list, and
-- its block length is one in use (`run_in_use`).
use Rattle.std.specs.Prelude.{◌≡◌, List, ℕ, suc}
use Rattle.words.specs.Word.{AreBytes}
use Rattle.order.specs.Answer.{Done}
use Rattle.fat_node.specs.Entry.{Bytes}
use Rattle.fat_node.specs.Format.{FormatPromise}
use Rattle.order.specs.Answer.{Answer}
use Rattle.fat_promises.specs.Promise.{Beside}
use Rattle.fat_promises.specs.Calls.{Create, CreatePromise, Change, ResizePromise, DeletePromise}

-- a history of k calls after format, that ends in the table; d is the length of the data, l the block length
pub data History : ℕ → Bytes → Type 0 where
  formats : (t t' : Bytes) (r : Answer) → AreBytes t → FormatPromise t r t' → r ≡ Done → History 0 t'
  creates : (k : ℕ) (t : Bytes) → History k t → (d l : ℕ) (work : List ℕ) (count : ℕ) (o : Beside Create) → CreatePromise t d l work count o
      → o.given.answer ≡ Done
      → History (suc k) o.given.table
  resizes : (k : ℕ) (t : Bytes) → History k t → (d l : ℕ) (work : List ℕ) (b count : ℕ) (o : Beside Change) → ResizePromise t d l work b count o
      → o.given.answer ≡ Done
      → History (suc k) o.given.table
  deletes : (k : ℕ) (t : Bytes) → History k t → (d l : ℕ) (work : List ℕ) (b : ℕ) (o : Beside Change) → DeletePromise t d l work b o
      → o.given.answer ≡ Done
      → History (suc k) o.given.table

-- the calls of a history that are resize
abbrev pub resizes_in : {k : ℕ} {t : Bytes} → History k t → ℕ
resizes_in (formats t t' r g p e) = 0
resizes_in (creates k t w d l work count o p e) = resizes_in w
resizes_in (resizes k t w d l work b count o p e) = suc (resizes_in w)
resizes_in (deletes k t w d l work b o p e) = resizes_in w
