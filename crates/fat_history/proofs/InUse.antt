-- Block lengths that are not in use: no call changes anything, and no history has them.
use mathlib.Core.Path.{◌≡◌}
use mathlib.Core.List.{List}
use mathlib.Core.Logic.{⊎_elim}
use Prim.Native.Nat.{ℕ}
use Rattle.words.specs.Word.{AreBytes}
use Rattle.fat_node.specs.Entry.{Bytes}
use Rattle.fat_test.specs.Gate.{InUse}
use Rattle.fat_promises.specs.Promise.{Beside}
use Rattle.fat_promises.specs.Calls.{Create, CreatePromise, Change, ResizePromise, DeletePromise, Carry, WritePromise}
use Rattle.fat_history.specs.History.{History, formats, creates, resizes, deletes}
use Rattle.fat_history.specs.InUse.{AllInUse}
use Rattle.fat_history.proofs.Passes.{are_bytes, none_used}
use Rattle.fat_history.proofs.Means.{create_means, create_keeps, resize_means, resize_keeps, delete_means, delete_keeps, write_keeps}
use Rattle.fat_history.proofs.Honest.{run_whole}

-- read-only: with a block length that is not in use, create, resize and delete leave the table as it was, and write the data, whatever else they are given
module _ (t : Bytes) (l : ℕ) (work : List ℕ) (g : AreBytes t) (n : InUse l → ⊥) where
  pub read_only_create : (d count : ℕ) (o : Beside Create) → CreatePromise t d l work count o → o.given.table ≡ t
  read_only_create d count o p = ⊎_elim (λ q. q) (λ w. absurd (n (none_used l w.past))) (create_keeps t d l work count o (are_bytes t g) p)

  pub read_only_resize : (d b count : ℕ) (o : Beside Change) → ResizePromise t d l work b count o → o.given.table ≡ t
  read_only_resize d b count o p = ⊎_elim (λ q. q) (λ w. absurd (n (none_used l w.past))) (resize_keeps t d l work b count o (are_bytes t g) p)

  pub read_only_delete : (d b : ℕ) (o : Beside Change) → DeletePromise t d l work b o → o.given.table ≡ t
  read_only_delete d b o p = ⊎_elim (λ q. q) (λ w. absurd (n (none_used l w.past))) (delete_keeps t d l work b o (are_bytes t g) p)

  pub read_only_write : (d : Bytes) (b pos : ℕ) (buf : Bytes) (o : Beside Carry) → WritePromise t d l work b pos buf o → o.given.bytes ≡ d
  read_only_write d b pos buf o p = ⊎_elim (λ q. q) (λ w. absurd (n (none_used l w.past))) (write_keeps t d l work b pos buf o (are_bytes t g) p)

-- run_in_use: every call of a history has a block length in use
pub run_in_use : {k : ℕ} {t : Bytes} (h : History k t) → AllInUse h
run_in_use (formats t t' r g p e) = tt
run_in_use (creates k t h d l work count o p e) =
    (none_used l (create_means t d l work count o (run_whole h).0.bytes p e).past, run_in_use h)
run_in_use (resizes k t h d l work b count o p e) =
    (none_used l (resize_means t d l work b count o (run_whole h).0.bytes p e).past, run_in_use h)
run_in_use (deletes k t h d l work b o p e) =
    (none_used l (delete_means t d l work b o (run_whole h).0.bytes p e).past, run_in_use h)
