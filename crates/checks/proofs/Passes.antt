-- There is one outcome: of any promise that its rows decide, and of a call on a whole table, which passes the rows of sizes, work list and soundness.
use mathlib.Core.Path.{◌≡◌, refl, sym, ap, subst, ◌∙◌}
use mathlib.Core.List.{List, [], ◌∷◌, ◌++◌}
use mathlib.Core.Logic.{inl, inr, ⊎_elim}
use Prim.Native.Nat.{ℕ, ◌*◌, ◌<◌, ◌≤◌}
use native.Mathlib.Omega.{arith}
use lib.ListN.{length}
use Rattle.order.specs.First.{Row, First}
use Rattle.order.specs.Given.{Given, None}
use Rattle.order.specs.Gate.{cleared}
use Rattle.order.specs.Answer.{Answer}
use Rattle.order.specs.Answer.{InvalidValue}
use Rattle.order.proofs.One.{one, refused}
use Rattle.order.proofs.Beside.{passed}
use Rattle.order.proofs.Gate.{later_past}
use Rattle.fat_node.specs.Entry.{Bytes}
use Rattle.fat_node.specs.Sizes.{blocks, Misfit, Outside}
use Rattle.fat_table.specs.Sound.{Sound}
use Rattle.fat_table.proofs.Files.{Whole}
use Rattle.fat_test.specs.Gate.{InUse, retired, Uneven, gate_with, block_gate, change_gate, test_gate}
use Rattle.fat_test.specs.Promise.{test_refused, test_done, TestPromise}
use Rattle.fat_test.specs.Promise.{Tested}
use Rattle.order.specs.Beside.{Beside, beside, within, Promised}
use Rattle.fat_promises.specs.Promise.{Promise, ChangePromise}

-- where no front row applies, the rows after them decide
past : {A : Type 0} (rs qs : List (Row A)) (d o : A) → None rs → First (rs ++ qs) d o → First qs d o
past [] qs d o n p = p
past (r ∷ rs) qs d o n (inl p) = absurd (n.0 p.0)
past (r ∷ rs) qs d o n (inr p) = past rs qs d o n.1 p.1

-- the work list left aside
own_of : {A : Type 0} (work : List ℕ) (own : List (Row A)) (done : A) (o : Beside A) → First (within work own) (beside done work) o
    → First own done o.given
own_of {A} work [] done o p = ap (λ (x : Beside A). x.given) p
own_of {A} work (r ∷ rs) done o (inl p) = inl (p.0, ap (λ (x : Beside A). x.given) p.1)
own_of work (r ∷ rs) done o (inr p) = inr (p.0, own_of work rs done o p.1)

-- a call whose front rows don't apply is decided by its own
pub own_rows : {A : Type 0} (front : List (Row (Beside A))) (work : List ℕ) (own : List (Row A)) (done : A) (o : Beside A) → None front
    → Promised front work own done o → First own done o.given
own_rows front work own done o n p = own_of work own done o (past front (within work own) (beside done work) o n p)

-- where no row applies, what Done gives keeps the promise
pub none_first : {A : Type 0} (rs : List (Row A)) (d : A) → None rs → First rs d d
none_first [] d n = refl
none_first (r ∷ rs) d n = inr (n.0, none_first rs d n.1)

-- what the first row that applies gives keeps it
pub given_first : {A : Type 0} (rs : List (Row A)) (d o : A) → Given rs o → First rs d o
given_first [] d o g = absurd g
given_first (r ∷ rs) d o (inl g) = inl g
given_first (r ∷ rs) d o (inr g) = inr (g.0, given_first rs d o g.1)

-- something keeps a promise, and whatever does gives x
abbrev pub Sole : {A : Type 0} → (A → Type 0) → A → Type 0
Sole {A} P x = ((o : A) × P o) × ((o : A) → P o → o ≡ x)

pub sole : {A : Type 0} (rs : List (Row A)) (d x : A) → First rs d x → Sole (First rs d) x
sole rs d x f = ((x, f), λ o p. one rs d o x p f)

-- the same, the work list left aside
abbrev pub SoleGiven : {A : Type 0} → (Beside A → Type 0) → A → Type 0
SoleGiven {A} P x = ((o : Beside A) × P o) × ((o : Beside A) → P o → o.given ≡ x)

pub sole_given : {A : Type 0} (front : List (Row (Beside A))) (work : List ℕ) (own : List (Row A)) (done x : A) → None front → First own done x
    → SoleGiven (Promised front work own done) x
sole_given front work own done x n f = (
  (beside x work, passed front work own done x n f),
  λ o p. one own done o.given x (own_rows front work own done o n p) f,
)

module _ (n : ℕ) (some : 1 ≤ n) (t : Bytes) (w : Whole n t) (work : List ℕ) (room : n ≤ length work) where
  blocks_of_lem : blocks t ≡ n
  blocks_of_lem = omega (arith, w.room)

  sound : Sound t (blocks t)
  sound = subst (λ (i : ℕ). Sound t i) (sym blocks_of_lem) w.sound

  fits : Misfit t → ⊥
  fits m = ⊎_elim (λ h. omega (arith, w.room, h)) (λ h. h (omega (arith, w.room))) m

  inside : Outside t → ⊥
  inside m = ⊎_elim (λ h. omega (arith, blocks_of_lem, some, h)) (λ h. omega (arith, blocks_of_lem, w.small, h)) m

  pub test_passes : {A : Type 0} (refuse : Answer → List ℕ → A) → None (test_gate refuse t work)
  test_passes refuse = (fits, (inside, (λ h. omega (arith, blocks_of_lem, room, h), (λ h. h sound, tt))))

  module _ {A : Type 0} (refuse : Answer → A) (d l : ℕ) (fit : d ≡ n * l) (l1 : 1 ≤ l) (l2 : l ≤ 65536) where
    call_passes : (more : List (Row Answer)) → None more → None (gate_with (λ a w. beside (refuse a) w) (Uneven t d l) t l more work)
    call_passes more p = (
      λ m. ⊎_elim fits (λ h. h (fit ∙ ap (λ (i : ℕ). i * l) (sym blocks_of_lem))) m,
      (
        λ m. ⊎_elim inside (λ k. ⊎_elim (λ h. omega (arith, l1, h)) (λ h. omega (arith, l2, h)) k) m,
        (λ h. omega (arith, blocks_of_lem, room, h), (λ h. h sound, later_past (λ a w. beside (refuse a) w) (blocks t) work more p)),
      ),
    )

    -- of a call that changes nothing
    pub settles : (own : ℕ → List (Row A)) (done : ℕ → A) (x : A) → First (own n) (done n) x
        → SoleGiven (Promise refuse t d l work (own (blocks t)) (done (blocks t))) x
    unfolding Promise
    settles own done x f =
        sole_given (block_gate (λ a w. beside (refuse a) w) t d l work) (cleared (blocks t) work) (own (blocks t)) (done (blocks t)) x (call_passes [] tt)
        (subst (λ (i : ℕ). First (own i) (done i) x) (sym blocks_of_lem) f)

    -- of one that changes the table or the data, with a block length in use
    pub changes : InUse l → (own : ℕ → List (Row A)) (done : ℕ → A) (x : A) → First (own n) (done n) x
        → SoleGiven (ChangePromise refuse t d l work (own (blocks t)) (done (blocks t))) x
    unfolding ChangePromise
    changes u own done x f =
        sole_given (change_gate (λ a w. beside (refuse a) w) t d l work) (cleared (blocks t) work) (own (blocks t)) (done (blocks t)) x
        (call_passes (retired l) ((λ n. n u), tt))
        (subst (λ (i : ℕ). First (own i) (done i) x) (sym blocks_of_lem) f)

-- beside the list: on a table of more than a million blocks every call on files, its data being as long, is refused with InvalidValue and leaves all as it was
module _ {A : Type 0} (refuse : Answer → A) (t : Bytes) (d l : ℕ) (work : List ℕ) (own : List (Row A)) (done : A) (fit : Misfit t → ⊥) (even : d ≡ blocks t * l)
    (many : 1000000 < blocks t) (o : Beside A) where
  pub call_many : Promise refuse t d l work own done o → o ≡ beside (refuse InvalidValue) work
  unfolding Promise
  call_many p =
      refused (block_gate (λ a w. beside (refuse a) w) t d l work ++ within (cleared (blocks t) work) own) (beside done (cleared (blocks t) work)) o
      (beside (refuse InvalidValue) work) (inr ((λ m. ⊎_elim fit (λ h. h even) m), inl (inl (inr many), refl))) p

  pub change_many : ChangePromise refuse t d l work own done o → o ≡ beside (refuse InvalidValue) work
  unfolding ChangePromise
  change_many p =
      refused (change_gate (λ a w. beside (refuse a) w) t d l work ++ within (cleared (blocks t) work) own) (beside done (cleared (blocks t) work)) o
      (beside (refuse InvalidValue) work) (inr ((λ m. ⊎_elim fit (λ h. h even) m), inl (inl (inr many), refl))) p

-- and so is the test, with no counts
pub test_many : (t : Bytes) (work : List ℕ) → (Misfit t → ⊥) → 1000000 < blocks t → (o : Tested × List ℕ) → TestPromise t work o
    → o ≡ test_refused InvalidValue work
test_many t work fit many o p =
    refused (test_gate test_refused t work) (test_done t work) o (test_refused InvalidValue work) (inr (fit, inl (inr many, refl))) p
