-- Each call's promise and its input leave one answer.
use mathlib.Core.Path.{◌≡◌}
use mathlib.Core.List.{List, ◌++◌}
use Prim.Native.Nat.{ℕ}
use lib.ListN.{length}
use Rattle.order.specs.First.{Row}
use Rattle.order.specs.Gate.{cleared}
use Rattle.order.specs.Answer.{Answer}
use Rattle.order.proofs.One.{one}
use Rattle.fat_node.specs.Entry.{Bytes}
use Rattle.fat_node.specs.Sizes.{blocks}
use Rattle.fat_test.specs.Gate.{block_gate, change_gate}
use Rattle.fat_promises.specs.Promise.{Beside, beside, within, Promise, ChangePromise}
use Rattle.fat_promises.specs.Calls.{
  Create,
  create_gives,
  create_rows,
  create_done,
  CreatePromise,
  Change,
  change_gives,
  resize_rows,
  resize_done,
  ResizePromise,
  delete_rows,
  delete_done,
  DeletePromise,
  Listing,
  list_gives,
  list_rows,
  list_done,
  ListPromise,
  Carry,
  carry_gives,
  carry_rows,
  read_done,
  ReadPromise,
  write_done,
  WritePromise,
}

-- whatever its own rows are
pub one_promise : {A : Type 0} (refuse : Answer → A) (t : Bytes) (d l : ℕ) (work : List ℕ) (own : List (Row A)) (done : A) (o o' : Beside A)
    → Promise refuse t d l work own done o → Promise refuse t d l work own done o' → o ≡ o'
unfolding Promise
one_promise refuse t d l work own done o o' p q =
    one (block_gate (λ a w. beside (refuse a) w) t d l work ++ within (cleared (blocks t) work) own) (beside done (cleared (blocks t) work)) o o' p q

pub one_change : {A : Type 0} (refuse : Answer → A) (t : Bytes) (d l : ℕ) (work : List ℕ) (own : List (Row A)) (done : A) (o o' : Beside A)
    → ChangePromise refuse t d l work own done o → ChangePromise refuse t d l work own done o' → o ≡ o'
unfolding ChangePromise
one_change refuse t d l work own done o o' p q =
    one (change_gate (λ a w. beside (refuse a) w) t d l work ++ within (cleared (blocks t) work) own) (beside done (cleared (blocks t) work)) o o' p q

pub one_create : (t : Bytes) (d l : ℕ) (work : List ℕ) (count : ℕ) (o o' : Beside Create) → CreatePromise t d l work count o → CreatePromise t d l work count o' → o ≡ o'
one_create t d l work count o o' p q =
    one_change (λ a. create_gives a 0 t) t d l work (create_rows (blocks t) t count) (create_done (blocks t) t count) o o' p q

pub one_resize : (t : Bytes) (d l : ℕ) (work : List ℕ) (b count : ℕ) (o o' : Beside Change) → ResizePromise t d l work b count o → ResizePromise t d l work b count o' → o ≡ o'
one_resize t d l work b count o o' p q =
    one_change (λ a. change_gives a t) t d l work (resize_rows (blocks t) t b count) (resize_done (blocks t) t b count) o o' p q

pub one_delete : (t : Bytes) (d l : ℕ) (work : List ℕ) (b : ℕ) (o o' : Beside Change) → DeletePromise t d l work b o → DeletePromise t d l work b o' → o ≡ o'
one_delete t d l work b o o' p q = one_change (λ a. change_gives a t) t d l work (delete_rows (blocks t) t b) (delete_done (blocks t) t b) o o' p q

pub one_list : (t : Bytes) (d l : ℕ) (work : List ℕ) (b : ℕ) (list : List ℕ) (o o' : Beside Listing) → ListPromise t d l work b list o → ListPromise t d l work b list o' → o ≡ o'
one_list t d l work b list o o' p q = one_promise (λ a. list_gives a 0 list) t d l work (list_rows (blocks t) t b list) (list_done (blocks t) t b list) o o' p q

pub one_read : (t d : Bytes) (l : ℕ) (work : List ℕ) (b pos : ℕ) (buf : Bytes) (o o' : Beside Carry) → ReadPromise t d l work b pos buf o → ReadPromise t d l work b pos buf o' → o ≡ o'
one_read t d l work b pos buf o o' p q =
    one_promise (λ a. carry_gives a buf) t (length d) l work (carry_rows (blocks t) t l b pos (length buf) buf) (read_done (blocks t) t d l b pos buf) o o' p q

pub one_write : (t d : Bytes) (l : ℕ) (work : List ℕ) (b pos : ℕ) (buf : Bytes) (o o' : Beside Carry) → WritePromise t d l work b pos buf o → WritePromise t d l work b pos buf o' → o ≡ o'
one_write t d l work b pos buf o o' p q =
    one_change (λ a. carry_gives a d) t (length d) l work (carry_rows (blocks t) t l b pos (length buf) d) (write_done (blocks t) t d l b pos buf) o o' p q
