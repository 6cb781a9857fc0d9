-- The tests in order, and what the calls make of them.
use mathlib.Core.Path.{◌≡◌, refl, sym, subst}
use mathlib.Core.Bool.{Bool, true, false}
use mathlib.Core.List.{List}
use Rattle.std.specs.Prelude.{Ok, Err}
use mathlib.Core.Logic.{inl, inr, ⊎_elim}
use Prim.Native.Nat.{ℕ, ◌+◌, ◌*◌, ◌/◌, ◌≤◌, ◌<◌}
use lib.Dec.{eqb}
use borrow.Author.Tests.{eqb-true, eqb-false}
use lib.ListN.{length, get_or}
use Rattle.order.specs.Given.{Given, None}
use Rattle.order.specs.Answer.{Answer}
use Rattle.order.specs.Answer.{Done, SizeMismatch, InvalidValue, OutOfBound, ReadOnlyVolume}
use Rattle.fat_node.specs.Entry.{Bytes}
use Rattle.fat_node.proofs.Nodes.{le_or_lt}
use Rattle.fat_test.specs.Gate.{InUse}
use Rattle.fat_walk.specs.Volume.{Data}
use Rattle.fat_promises.specs.Blocks.{bytes_at, written}
use Rattle.fat_promises.specs.Calls.{carry_gives}
use Rattle.order.specs.Tells.{Tells}
use Rattle.fat_listed.specs.Listed.{Uneven, Unfit, Foreign, listed_tests, write_tests, ReadBlocksPromise, WriteBlocksPromise}
use Rattle.fat_listed.specs.Shares.{Domestic, JudgeSays}
use Rattle.fat_listed.proofs.Tests.{tells_not, given_first, none_first}

-- what sizes that fit say
pub fit_some : (d l : ℕ) → (Unfit d l → ⊥) → 1 ≤ l
fit_some d l u = ⊎_elim (λ h. h) (λ h. absurd (u (inr (inr (inl h))))) (le_or_lt 1 l)

pub fit_few : (d l : ℕ) → (Unfit d l → ⊥) → l ≤ 65536
fit_few d l u = ⊎_elim (λ h. h) (λ h. absurd (u (inr (inr (inr h))))) (le_or_lt l 65536)

fit_blocks : (d l : ℕ) → (Unfit d l → ⊥) → d / l ≤ 1000000
fit_blocks d l u = ⊎_elim (λ h. h) (λ h. absurd (u (inr (inl h)))) (le_or_lt (d / l) 1000000)

fit_even : (d l : ℕ) → (Uneven d l → ⊥) → d ≡ d / l * l
fit_even d l u = go (eqb d (d / l * l)) refl
  where
    go : (t : Bool) → eqb d (d / l * l) ≡ t → d ≡ d / l * l
    go true e = eqb-true d (d / l * l) e
    go false e = absurd (u (eqb-false d (d / l * l) e))

pub not_past : (x y : ℕ) {r : Bool} → Tells (x < y) r → r ≡ false → y ≤ x
not_past x y t e = ⊎_elim (λ h. h) (λ h. absurd (tells_not t e h)) (le_or_lt y x)

-- the tests ---------------------------------------------------------------------------------------------------------------

module _ (d l : ℕ) (list : List ℕ) (pos many : ℕ) {r1 : Bool} (t1 : Tells (Uneven d l) r1) where
  pub judged_uneven : r1 ≡ true → JudgeSays (listed_tests d l list pos many) SizeMismatch
  judged_uneven e = inl (t1.yes e, refl)

  module _ {r2 : Bool} (e1 : r1 ≡ false) (t2 : Tells (Unfit d l) r2) where
    pub judged_unfit : r2 ≡ true → JudgeSays (listed_tests d l list pos many) InvalidValue
    judged_unfit e = inr (tells_not t1 e1, inl (t2.yes e, refl))

    module _ {r3 : Bool} (e2 : r2 ≡ false) (t3 : Tells (length list * l < pos + many) r3) where
      pub judged_past : r3 ≡ true → JudgeSays (listed_tests d l list pos many) OutOfBound
      judged_past e = inr (tells_not t1 e1, inr (tells_not t2 e2, inl (t3.yes e, refl)))

      module _ {r4 : Bool} (e3 : r3 ≡ false) (t4 : Tells (Foreign (d / l) list l pos many) r4) where
        pub judged_foreign : r4 ≡ true → JudgeSays (listed_tests d l list pos many) InvalidValue
        judged_foreign e = inr (tells_not t1 e1, inr (tells_not t2 e2, inr (tells_not t3 e3, inl (t4.yes e, refl))))

        pub judged_fits : r4 ≡ false → JudgeSays (listed_tests d l list pos many) Done
        judged_fits e = (tells_not t1 e1, (tells_not t2 e2, (tells_not t3 e3, (tells_not t4 e, tt))))

-- the tests of write_blocks ---------------------------------------------------------------------------------------------

module _ (d l : ℕ) (list : List ℕ) (pos many : ℕ) where
  -- a block length in use: as those of read_blocks
  pub write_used : InUse l → (r : Answer) → JudgeSays (listed_tests d l list pos many) r → JudgeSays (write_tests d l list pos many) r
  write_used u (Ok done) n = (n.0, (n.1.0, ((λ z. z u), n.1.1)))
  write_used u (Err why) (inl p) = inl p
  write_used u (Err why) (inr (x, inl p)) = inr (x, inl p)
  write_used u (Err why) (inr (x, inr (y, p))) = inr (x, inr (y, inr ((λ z. z u), p)))

  -- and where no test applies, none of read_blocks does
  pub write_none : None (write_tests d l list pos many) → None (listed_tests d l list pos many)
  write_none n = (n.0, (n.1.0, n.1.1.1))

  module _ (b : Bool) (t0 : Tells (InUse l) b) (e0 : b ≡ false) {r1 : Bool} (t1 : Tells (Uneven d l) r1) where
    pub write_uneven : r1 ≡ true → JudgeSays (write_tests d l list pos many) SizeMismatch
    write_uneven e = inl (t1.yes e, refl)

    module _ {r2 : Bool} (e1 : r1 ≡ false) (t2 : Tells (Unfit d l) r2) where
      pub write_unfit : r2 ≡ true → JudgeSays (write_tests d l list pos many) InvalidValue
      write_unfit e = inr (tells_not t1 e1, inl (t2.yes e, refl))

      pub write_retired : r2 ≡ false → JudgeSays (write_tests d l list pos many) ReadOnlyVolume
      write_retired e = inr (tells_not t1 e1, inr (tells_not t2 e, inl (tells_not t0 e0, refl)))

-- the calls ---------------------------------------------------------------------------------------------------------------

module _ (d l : ℕ) (list : List ℕ) (pos many : ℕ) (n : None (listed_tests d l list pos many)) where
  pub none_some : 1 ≤ l
  none_some = fit_some d l n.1.0

  pub none_data : Data (d / l) d l
  none_data = record { some = none_some; few = fit_few d l n.1.0; fits = fit_even d l n.0 }

  pub none_blocks : d / l ≤ 1000000
  none_blocks = fit_blocks d l n.1.0

  pub none_domestic : Domestic (d / l) list l pos many
  none_domestic = record {
    room = ⊎_elim (λ h. h) (λ h. absurd (n.1.1.0 h)) (le_or_lt (pos + many) (length list * l));
    below = λ k a b. ⊎_elim (λ h. absurd (n.1.1.1.0 (k, a, b, h))) (λ h. h) (le_or_lt (d / l) (get_or list (k / l) 0));
  }

module _ (d : Bytes) (l : ℕ) (list : List ℕ) (pos : ℕ) (buf : Bytes) where
  pub read_refused : (a : Answer) → Given (listed_tests (length d) l list pos (length buf)) a → ReadBlocksPromise d l list pos buf (carry_gives a buf)
  read_refused a g = given_first (λ a. carry_gives a buf) _ (listed_tests (length d) l list pos (length buf)) a g

  pub read_done_lem : None (listed_tests (length d) l list pos (length buf)) → (u : Bytes) → u ≡ bytes_at (length buf) d l list pos → ReadBlocksPromise d l list pos buf (carry_gives Done u)
  read_done_lem n u q =
      subst (λ (x : Bytes). ReadBlocksPromise d l list pos buf (carry_gives Done x)) (sym q)
      (none_first (λ a. carry_gives a buf) (carry_gives Done (bytes_at (length buf) d l list pos)) (listed_tests (length d) l list pos (length buf)) n)

  pub write_refused : (a : Answer) → Given (write_tests (length d) l list pos (length buf)) a → WriteBlocksPromise d l list pos buf (carry_gives a d)
  write_refused a g = given_first (λ a. carry_gives a d) _ (write_tests (length d) l list pos (length buf)) a g

  pub write_done_lem : None (write_tests (length d) l list pos (length buf)) → (u : Bytes) → u ≡ written buf d l list pos → WriteBlocksPromise d l list pos buf (carry_gives Done u)
  write_done_lem n u q =
      subst (λ (x : Bytes). WriteBlocksPromise d l list pos buf (carry_gives Done x)) (sym q)
      (none_first (λ a. carry_gives a d) (carry_gives Done (written buf d l list pos)) (write_tests (length d) l list pos (length buf)) n)
