-- What an outcome of each call says, and that a call which may be done is.
use mathlib.Core.Path.{◌≡◌, refl, sym, ap, ◌∙◌}
use mathlib.Core.List.{List, [], ◌∷◌, ◌++◌}
use mathlib.Core.Logic.{◌⊎◌, inl, inr, ⊎_elim}
use mathlib.Core.Bool.{true}
use Prim.Native.Nat.{ℕ, ◌≤◌, ◌<◌}
use native.Mathlib.Omega.{arith}
use lib.ListN.{length}
use Rattle.words.proofs.Laws as words
use Rattle.order.specs.First.{Row, First}
use Rattle.order.specs.Given.{None}
use Rattle.order.specs.Giving.{giving}
use Rattle.order.specs.Gate.{cleared}
use Rattle.order.specs.Beside.{Promised}
use Rattle.order.specs.Answer.{Answer}
use Rattle.order.specs.Answer.{Done, SizeMismatch, InvalidValue, WorkTooShort}
use Rattle.order.proofs.One.{one}
use Rattle.order.proofs.Tests.{none_giving, giving_none}
use Rattle.fat_node.specs.Entry.{Bytes}
use Rattle.fat_node.specs.Sizes.{blocks, Misfit, Outside}
use Rattle.fat_node.specs.Format.{formatted, format_rows, format_done, FormatPromise}
use Rattle.fat_table.specs.Sound.{Sound}
use Rattle.fat_test.specs.Gate.{InUse, retired, Uneven, Unfit, test_gate, gate_with, unsound}
use Rattle.fat_test.specs.Promise.{test_refused, test_done}
use Rattle.fat_test.specs.Promise.{Tested}
use Rattle.fat_promises.specs.Promise.{Beside, beside, within, Promise, ChangePromise}
use Rattle.fat_promises.specs.Calls.{
  Create,
  create_gives,
  create_tests,
  MayCreate,
  create_done,
  CreatePromise,
  Change,
  change_gives,
  resize_tests,
  MayResize,
  resize_done,
  ResizePromise,
  delete_tests,
  MayDelete,
  delete_done,
  DeletePromise,
  Carry,
  carry_gives,
  carry_tests,
  MayCarry,
  read_done,
  ReadPromise,
  write_done,
  WritePromise,
}
use Rattle.fat_promises.proofs.May.{may_create, none_create, may_resize, may_delete, none_delete, may_carry, none_carry}
use Rattle.fat_promises.proofs.Unique.{one_read}
use Rattle.fat_history.proofs.Rows.{
  Each,
  last_or,
  last_given,
  each_any,
  each_append,
  each_giving,
  each_within,
  each_gate,
  none_append,
  append_none,
  none_within,
  within_none,
  not_done,
  refuses,
  each_refuses,
}
use Rattle.fat_history.proofs.Passes.{Fits, Passed, fits, fits_not_misfit, fits_not_outside, passed, passed_more, none_passed, used_none, tested, none_tested}

-- a call went by: its gate has passed, with its rows after soundness, none of its tests applied, and its outcome is what Done gives
pub record Went {A : Type 0} (t : Bytes) (d l : ℕ) (more : List (Row Answer)) (work : List ℕ) (May : Type 0) (done : A) (o : Beside A) : Type 0 where
  pub passed : Passed t d l work
  pub past : None more
  pub may : May
  pub is : o ≡ beside done (cleared (blocks t) work)

-- any call on files, with its tests and what Done gives ------------------------------------------------------------

module _ {A : Type 0} (g : Answer → A) (t : Bytes) (d l : ℕ) (more : List (Row Answer)) (work : List ℕ) (tests : List (Row Answer)) (done : A) (May : Type 0) where
  abbrev front : List (Row (Beside A))
  front = gate_with (λ a w. beside (g a) w) (Uneven t d l) t l more work

  abbrev last : Beside A
  last = beside done (cleared (blocks t) work)

  abbrev Says : Beside A → Type 0
  Says o = Promised front (cleared (blocks t) work) (giving g tests) done o

  abbrev Goes : Type 0
  Goes = (Passed t d l work → None tests → May)

  all : List (Row (Beside A))
  all = front ++ within (cleared (blocks t) work) (giving g tests)

  went : Goes → words.Bytes t → (o : Beside A) → None all × (o ≡ last) → Went t d l more work May done o
  unfolding all
  went f bytes o (n, e) =
      let w = none_append front (within (cleared (blocks t) work) (giving g tests)) n in
      let p : Passed t d l work = passed (λ a w. beside (g a) w) t d l more work bytes w.0 in
      record { passed = p; past = passed_more (λ a w. beside (g a) w) t d l more work w.0; may = f p (giving_none g tests (none_within (cleared (blocks t) work) (giving g tests) w.1)); is = e }

  -- where every refusal has P, the outcome has P or the call went by
  either : (Q : Answer → Type 0) (P : Beside A → Type 0) → ((a : Answer) (w : List ℕ) → Q a → P (beside (g a) w)) → Q SizeMismatch → Q InvalidValue → Q WorkTooShort
      → Each Q (unsound t ++ more)
      → Each (λ a. Q a) tests
      → Goes
      → words.Bytes t
      → (o : Beside A)
      → Says o
      → P o ⊎ Went t d l more work May done o
  unfolding all
  either Q P f a b c u h goes bytes o p =
      ⊎_elim (λ x. inl x) (λ x. inr (went goes bytes o x))
      (last_or P all last o
      (each_append P front (within (cleared (blocks t) work) (giving g tests))
      (each_gate P (λ a w. beside (g a) w) Q f a b c (Uneven t d l) (Unfit t l) (length work < blocks t) (unsound t ++ more) (blocks t) work u)
      (each_within P (cleared (blocks t) work) (giving g tests)
      (each_giving (λ x. P (beside x (cleared (blocks t) work))) g tests (turn tests h))))
      p)
    where
      turn : (rs : List (Row Answer)) → Each (λ a. Q a) rs → Each (λ a. P (beside (g a) (cleared (blocks t) work))) rs
      turn [] h = tt
      turn (r ∷ rs) h = (f r.gives (cleared (blocks t) work) h.0, turn rs h.1)

  -- an outcome whose answer is Done
  pub means : (answer_of : A → Answer) → ((a : Answer) → answer_of (g a) ≡ a) → refuses more ≡ true → refuses tests ≡ true → Goes → words.Bytes t → (o : Beside A) → Says o
      → answer_of o.given ≡ Done
      → Went t d l more work May done o
  means answer_of same m r goes bytes o p e =
      ⊎_elim (λ z. absurd (z e)) (λ w. w)
      (either (λ a. a ≡ Done → ⊥) (λ x. answer_of x.given ≡ Done → ⊥) (λ a w q z. q (sym (same a) ∙ z)) (not_done SizeMismatch (omega arith)) (not_done InvalidValue (omega arith)) (not_done WorkTooShort (omega arith))
      (each_append (λ a. a ≡ Done → ⊥) (unsound t) more (each_refuses (unsound t) refl) (each_refuses more m)) (each_refuses tests r) goes bytes o p)

  -- what every refusal gives alike is what the outcome gives, or the call went by
  pub keeps : {B : Type 0} (f : A → B) (b : B) → ((a : Answer) → f (g a) ≡ b) → Goes → words.Bytes t → (o : Beside A) → Says o
      → (f o.given ≡ b) ⊎ Went t d l more work May done o
  keeps f b same goes bytes o p =
      either (λ a. f (g a) ≡ b) (λ x. f x.given ≡ b) (λ a w q. q) (same SizeMismatch) (same InvalidValue) (same WorkTooShort)
      (each_any (λ a. f (g a) ≡ b) same (unsound t ++ more)) (each_any (λ a. f (g a) ≡ b) same tests) goes bytes o p

  -- and where it may go by, it does
  pub goes_by : Passed t d l work → None more → None tests → Says last
  goes_by p m n =
      last_given (front ++ within (cleared (blocks t) work) (giving g tests)) last
      (append_none front (within (cleared (blocks t) work) (giving g tests)) (none_passed (λ a w. beside (g a) w) t d l more work p m)
      (within_none (cleared (blocks t) work) (giving g tests) (none_giving g tests n)))

-- format ---------------------------------------------------------------------------------------------------------

pub format_means : (t t' : Bytes) (r : Answer) → FormatPromise t r t' → r ≡ Done → Fits t × (t' ≡ formatted (blocks t) t)
format_means t t' r p e =
    ⊎_elim (λ z. absurd (z e)) (λ w. let n = w.0 in (fits t n.0 n.1.0, ap (λ (x : Answer × Bytes). x.1) w.1))
    (last_or (λ (x : Answer × Bytes). x.0 ≡ Done → ⊥) (format_rows t) (format_done t) (r, t')
    (not_done SizeMismatch (omega arith), (not_done InvalidValue (omega arith), tt)) p)

pub format_done_lem : (t : Bytes) → Fits t → FormatPromise t Done (formatted (blocks t) t)
format_done_lem t f = last_given (format_rows t) (format_done t) (fits_not_misfit t f, (fits_not_outside t f, tt))

-- create ----------------------------------------------------------------------------------------------------------

module _ (t : Bytes) (d l : ℕ) (work : List ℕ) (count : ℕ) where
  abbrev CreateWent : Beside Create → Type 0
  CreateWent o = Went t d l (retired l) work (MayCreate (blocks t) t count) (create_done (blocks t) t count) o

  abbrev pub create_last : Beside Create
  create_last = beside (create_done (blocks t) t count) (cleared (blocks t) work)

  pub create_means : (o : Beside Create) → words.Bytes t → CreatePromise t d l work count o → o.given.answer ≡ Done → CreateWent o
  unfolding ChangePromise
  create_means o g p e =
      means (λ a. create_gives a 0 t) t d l (retired l) work (create_tests (blocks t) t count) (create_done (blocks t) t count) (MayCreate (blocks t) t count)
      (λ x. x.answer) (λ a. refl) refl refl (λ q n. may_create (blocks t) t count n) g o p e

  pub create_keeps : (o : Beside Create) → words.Bytes t → CreatePromise t d l work count o → (o.given.table ≡ t) ⊎ CreateWent o
  unfolding ChangePromise
  create_keeps o g p =
      keeps (λ a. create_gives a 0 t) t d l (retired l) work (create_tests (blocks t) t count) (create_done (blocks t) t count) (MayCreate (blocks t) t count)
      (λ x. x.table) t (λ a. refl) (λ q n. may_create (blocks t) t count n) g o p

  pub create_done_lem : Passed t d l work → InUse l → MayCreate (blocks t) t count → CreatePromise t d l work count create_last
  unfolding ChangePromise
  create_done_lem p u m =
      goes_by (λ a. create_gives a 0 t) t d l (retired l) work (create_tests (blocks t) t count) (create_done (blocks t) t count) (MayCreate (blocks t) t count) p (used_none l u)
      (none_create (blocks t) t count m)

-- resize ----------------------------------------------------------------------------------------------------------

module _ (t : Bytes) (d l : ℕ) (work : List ℕ) (b count : ℕ) where
  abbrev ResizeWent : Beside Change → Type 0
  ResizeWent o = Went t d l (retired l) work (MayResize (blocks t) t b count) (resize_done (blocks t) t b count) o

  pub resize_means : (o : Beside Change) → words.Bytes t → ResizePromise t d l work b count o → o.given.answer ≡ Done → ResizeWent o
  unfolding ChangePromise
  resize_means o g p e =
      means (λ a. change_gives a t) t d l (retired l) work (resize_tests (blocks t) t b count) (resize_done (blocks t) t b count) (MayResize (blocks t) t b count)
      (λ x. x.answer) (λ a. refl) refl refl (λ q n. may_resize (blocks t) t q.whole b count n) g o p e

  pub resize_keeps : (o : Beside Change) → words.Bytes t → ResizePromise t d l work b count o → (o.given.table ≡ t) ⊎ ResizeWent o
  unfolding ChangePromise
  resize_keeps o g p =
      keeps (λ a. change_gives a t) t d l (retired l) work (resize_tests (blocks t) t b count) (resize_done (blocks t) t b count) (MayResize (blocks t) t b count)
      (λ x. x.table) t (λ a. refl) (λ q n. may_resize (blocks t) t q.whole b count n) g o p

-- delete ----------------------------------------------------------------------------------------------------------

module _ (t : Bytes) (d l : ℕ) (work : List ℕ) (b : ℕ) where
  abbrev DeleteWent : Beside Change → Type 0
  DeleteWent o = Went t d l (retired l) work (MayDelete (blocks t) t b) (delete_done (blocks t) t b) o

  abbrev pub delete_last : Beside Change
  delete_last = beside (delete_done (blocks t) t b) (cleared (blocks t) work)

  pub delete_means : (o : Beside Change) → words.Bytes t → DeletePromise t d l work b o → o.given.answer ≡ Done → DeleteWent o
  unfolding ChangePromise
  delete_means o g p e =
      means (λ a. change_gives a t) t d l (retired l) work (delete_tests (blocks t) t b) (delete_done (blocks t) t b) (MayDelete (blocks t) t b)
      (λ x. x.answer) (λ a. refl) refl refl (λ q n. may_delete (blocks t) t q.whole b n) g o p e

  pub delete_keeps : (o : Beside Change) → words.Bytes t → DeletePromise t d l work b o → (o.given.table ≡ t) ⊎ DeleteWent o
  unfolding ChangePromise
  delete_keeps o g p =
      keeps (λ a. change_gives a t) t d l (retired l) work (delete_tests (blocks t) t b) (delete_done (blocks t) t b) (MayDelete (blocks t) t b)
      (λ x. x.table) t (λ a. refl) (λ q n. may_delete (blocks t) t q.whole b n) g o p

  pub delete_done_lem : Passed t d l work → InUse l → MayDelete (blocks t) t b → DeletePromise t d l work b delete_last
  unfolding ChangePromise
  delete_done_lem p u m =
      goes_by (λ a. change_gives a t) t d l (retired l) work (delete_tests (blocks t) t b) (delete_done (blocks t) t b) (MayDelete (blocks t) t b) p (used_none l u)
      (none_delete (blocks t) t b m)

-- read and write --------------------------------------------------------------------------------------------------

module _ (t d : Bytes) (l : ℕ) (work : List ℕ) (b pos : ℕ) (buf : Bytes) where
  abbrev May : Type 0
  May = MayCarry (blocks t) t l b pos (length buf)

  abbrev tests : List (Row Answer)
  tests = carry_tests (blocks t) t l b pos (length buf)

  may : Passed t (length d) l work → None tests → May
  may q n = may_carry (blocks t) t q.whole b l pos (length buf) n

  abbrev pub read_last : Beside Carry
  read_last = beside (read_done (blocks t) t d l b pos buf) (cleared (blocks t) work)

  pub read_means : (o : Beside Carry) → words.Bytes t → ReadPromise t d l work b pos buf o → o.given.answer ≡ Done
      → Went t (length d) l [] work May (read_done (blocks t) t d l b pos buf) o
  unfolding Promise
  read_means o g p e =
      means (λ a. carry_gives a buf) t (length d) l [] work tests (read_done (blocks t) t d l b pos buf) May (λ x. x.answer) (λ a. refl) refl refl may g o p e

  -- a read that may be done is
  pub read_gives : (o : Beside Carry) → Passed t (length d) l work → May → ReadPromise t d l work b pos buf o → o ≡ read_last
  unfolding Promise
  read_gives o q m p =
      one_read t d l work b pos buf o read_last p
      (goes_by (λ a. carry_gives a buf) t (length d) l [] work tests (read_done (blocks t) t d l b pos buf) May q tt (none_carry (blocks t) t b l pos (length buf) m))

  pub write_means : (o : Beside Carry) → words.Bytes t → WritePromise t d l work b pos buf o → o.given.answer ≡ Done
      → Went t (length d) l (retired l) work May (write_done (blocks t) t d l b pos buf) o
  unfolding ChangePromise
  write_means o g p e =
      means (λ a. carry_gives a d) t (length d) l (retired l) work tests (write_done (blocks t) t d l b pos buf) May (λ x. x.answer) (λ a. refl) refl refl may g o p e

  pub write_keeps : (o : Beside Carry) → words.Bytes t → WritePromise t d l work b pos buf o
      → (o.given.bytes ≡ d) ⊎ Went t (length d) l (retired l) work May (write_done (blocks t) t d l b pos buf) o
  unfolding ChangePromise
  write_keeps o g p =
      keeps (λ a. carry_gives a d) t (length d) l (retired l) work tests (write_done (blocks t) t d l b pos buf) May (λ x. x.bytes) d (λ a. refl) may g o p

-- the test --------------------------------------------------------------------------------------------------------

module _ (t : Bytes) (work : List ℕ) (o : Tested × List ℕ) where
  pub test_means : words.Bytes t → First (test_gate test_refused t work) (test_done t work) o → o.0.answer ≡ Done → Fits t × Sound t (blocks t)
  test_means g p e =
      ⊎_elim (λ z. absurd (z e)) (λ w. tested test_refused t work g w.0)
      (last_or (λ (x : Tested × List ℕ). x.0.answer ≡ Done → ⊥) (test_gate test_refused t work) (test_done t work) o
      (each_gate (λ (x : Tested × List ℕ). x.0.answer ≡ Done → ⊥) test_refused (λ a. a ≡ Done → ⊥) (λ a w q. q) (not_done SizeMismatch (omega arith)) (not_done InvalidValue (omega arith))
      (not_done WorkTooShort (omega arith)) (Misfit t) (Outside t) (length work < blocks t) (unsound t) (blocks t) work (each_refuses (unsound t) refl))
      p)

  -- a sound table is accepted
  pub test_accepts : Fits t → blocks t ≤ length work → Sound t (blocks t) → First (test_gate test_refused t work) (test_done t work) o → o.0.answer ≡ Done
  test_accepts f h s p =
      ap (λ (x : Tested × List ℕ). x.0.answer)
      (one (test_gate test_refused t work) (test_done t work) o (test_done t work) p
      (last_given (test_gate test_refused t work) (test_done t work) (none_tested test_refused t work f h s)))
