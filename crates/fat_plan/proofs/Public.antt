-- The public calls: the gate, then the call that requires soundness on the front of the work list, which it leaves cleared.
use mathlib.Core.Path.{◌≡◌, sym, ap, subst⁻¹, ◌∙◌}
use mathlib.Core.List.{List, [], ◌++◌}
use Prim.Native.Nat.{ℕ, ◌+◌, ◌≤◌}
use native.Mathlib.Omega.{arith}
use lib.ListN.{length, take, drop, replicate, length-append, length-replicate}
use lib.Seq.{take_at, drop_at, length-take-le}
use Rattle.order.specs.Gate.{cleared}
use Rattle.order.specs.First.{Row, First}
use Rattle.order.specs.Beside.{Promised}
use Rattle.order.specs.Answer.{Answer}
use Rattle.order.specs.Answer.{Done}
use Rattle.fat_node.specs.Entry.{Bytes}
use Rattle.fat_node.specs.Sizes.{blocks}
use Rattle.fat_test.specs.Gate.{Uneven, gate_with}
use Rattle.fat_test.specs.Inner.Gated.{OpenedWith, Opened}
use Rattle.fat_promises.specs.Promise.{beside, Promise}
use Rattle.fat_promises.specs.Calls.{Listing, list_gives}
use Rattle.fat.proofs.Public.{passed}
use Rattle.fat_plan.specs.Promise.{check_tests, CheckSound, CheckPromise, find_rows, find_done, FindSound, FindPromise}

-- more are the gate's rows after soundness
module _ (t : Bytes) (d l : ℕ) (more : List (Row Answer)) (work work' : List ℕ) (free files n : ℕ) (g : OpenedWith (Uneven t d l) t l more work work' free files) (q : n ≡ blocks t) where
  work_is : work' ≡ replicate n 0 ++ drop n work
  work_is = g.clear ∙ ap (λ (m : ℕ). cleared m work) (sym q)

  pub lent_fits : n ≤ length work'
  lent_fits =
      omega (
        arith,
        ap {B = ℕ} length work_is,
        length-append (replicate {A = ℕ} n 0) (drop n work),
        length-replicate {A = ℕ} n 0,
      )

  pub lent_long : n ≡ length (take n work')
  lent_long = sym (length-take-le n work' lent_fits)

  pub lent_clear : take n work' ≡ replicate n 0
  lent_clear = ap (take n) work_is ∙ take_at (replicate n 0) (drop n work) n (length-replicate {A = ℕ} n 0)

  -- it comes back as it was lent
  lent_back : (w : List ℕ) → w ≡ replicate n 0 → w ++ drop n work' ≡ work'
  lent_back w z =
      let a : drop n work' ≡ drop n work = ap (drop n) work_is ∙ drop_at (replicate n 0) (drop n work) n (length-replicate {A = ℕ} n 0) in
      ap (λ (x : List ℕ). x ++ drop n work') z ∙ ap (λ (x : List ℕ). replicate n 0 ++ x) a ∙ sym work_is

  -- the call gives o by its own rows, and leaves its part of the work list cleared
  pub went : {A : Type 0} (refuse : Answer → A) (own : ℕ → List (Row A)) (done : ℕ → A) (o : A) (w : List ℕ) → First (own n) (done n) o → w ≡ replicate n 0
      → Promised (gate_with (λ a w. beside (refuse a) w) (Uneven t d l) t l more work) (cleared (blocks t) work) (own (blocks t)) (done (blocks t)) (beside o (w ++ drop n work'))
  went refuse own done o w p z =
      subst⁻¹
      (λ (x : List ℕ). Promised (gate_with (λ a w. beside (refuse a) w) (Uneven t d l) t l more work) (cleared (blocks t) work) (own (blocks t)) (done (blocks t)) (beside o x))
      (lent_back w z)
      (passed t d l more work work' refuse own done free files n o g q p)

module _ (t : Bytes) (d l : ℕ) (work work' : List ℕ) (free files n : ℕ) (g : Opened t d l work work' free files) (q : n ≡ blocks t) where
  pub check_passed : (b : ℕ) (plan : List ℕ) (o : Answer) (w : List ℕ) → CheckSound n t b plan o → w ≡ replicate n 0
      → CheckPromise t d l work b plan (beside o (w ++ drop n work'))
  unfolding Promise
  check_passed b plan o w p z = went t d l [] work work' free files n g q (λ a. a) (λ m. check_tests m t b plan) (λ m. Done) o w p z

  pub find_passed : (b : ℕ) (list : List ℕ) (o : Listing) (w : List ℕ) → FindSound n t b list o → w ≡ replicate n 0
      → FindPromise t d l work b list (beside o (w ++ drop n work'))
  unfolding Promise
  find_passed b list o w p z =
      went t d l [] work work' free files n g q (λ a. list_gives a 0 list) (λ m. find_rows m t b list) (λ m. find_done m t b list) o w p z
