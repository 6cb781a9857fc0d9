-- The loop that judges a new name: what holds at its begin, at each turn and at its end.
use mathlib.Core.Path.{◌≡◌, refl, sym, ap, ◌∙◌, subst}
use mathlib.Core.Bool.{Bool, true, false, not, ◌&&◌}
use mathlib.Core.List.{List}
use mathlib.Core.Logic.{⊎_elim, ◌≢◌}
use Prim.Native.Nat.{ℕ, zero, suc, ◌+◌, ◌≤◌, ◌<◌}
use native.Mathlib.Omega.{arith}
use lib.Dec.{eqb}
use lib.ListN.{get_or}
use borrow.Author.Tests.{eq-eqb, ne_eqb}
use Rattle.links.proofs.Held.{same_or}
use Rattle.tree_promises.specs.Legal.{torn, padded, legal}

both : {a b : Bool} → a ≡ true → b ≡ true → a && b ≡ true
both {a} {b} p q = subst (λ z. z && b ≡ true) (sym p) q

left_false : {a : Bool} (b : Bool) → a ≡ false → a && b ≡ false
left_false {a} b p = subst (λ z. z && b ≡ false) (sym p) refl

right_false : (a : Bool) {b : Bool} → b ≡ false → a && b ≡ false
right_false true p = p
right_false false p = refl

module _ (name : List ℕ) where
  next : (i : ℕ) → suc i ≡ i + 1
  next i = omega arith

  -- one more byte that does not tear the name, and one that does
  padded_on : (i : ℕ) → padded i name ≡ true → torn (get_or name i 0) (get_or name (suc i) 0) ≡ false → padded (suc i) name ≡ true
  unfolding padded
  padded_on i p t = both p (ap not t)

  torn_there : (i : ℕ) → torn (get_or name i 0) (get_or name (suc i) 0) ≡ true → padded (suc i) name ≡ false
  unfolding padded
  torn_there i t = right_false (padded i name) (ap not t)

  -- what is torn stays torn
  stays : (n i : ℕ) → i ≤ n → padded i name ≡ false → padded n name ≡ false
  unfolding padded
  stays zero i h e = subst (λ k. padded k name ≡ false) (let q : i ≡ 0 = omega arith in q) e
  stays (suc n) i h e =
      ⊎_elim
      (λ (q : i ≡ suc n). subst (λ k. padded k name ≡ false) q e)
      (λ (q : i ≢ suc n). left_false (not (torn (get_or name n 0) (get_or name (suc n) 0))) (stays n i (omega arith) e))
      (same_or i (suc n))

-- the bytes up to byte i are those of a legal name
pub record Judging (name : List ℕ) (i : ℕ) : Type 0 where
  pub starts : get_or name 0 0 ≡ 0 → ⊥
  pub whole : padded i name ≡ true

pub judging_begin : {name : List ℕ} → (get_or name 0 0 ≡ 0 → ⊥) → Judging name 0
unfolding padded
judging_begin n = record { starts = n; whole = refl }

module _ {name : List ℕ} {i : ℕ} (J : Judging name i) where
  module _ (l : i < 15) {r : Bool} (e : r ≡ torn (get_or name i 0) (get_or name (i + 1) 0)) where
    at_next : r ≡ torn (get_or name i 0) (get_or name (suc i) 0)
    at_next = subst (λ k. r ≡ torn (get_or name i 0) (get_or name k 0)) (sym (next name i)) e

    pub judging_on : r ≡ false → Judging name (i + 1)
    judging_on f = record {
      starts = J.starts;
      whole = subst (λ k. padded k name ≡ true) (next name i) (padded_on name i J.whole (sym at_next ∙ f));
    }

    pub judging_torn : r ≡ true → false ≡ legal name
    unfolding legal
    judging_torn f = sym (right_false (not (eqb (get_or name 0 0) 0)) (stays name 15 (suc i) (omega arith) (torn_there name i (sym at_next ∙ f))))

pub judging_done : {name : List ℕ} {i : ℕ} → Judging name i → i ≤ 15 → 15 ≤ i → true ≡ legal name
unfolding legal
judging_done {name} {i} J h l =
    let q : i ≡ 15 = omega arith in
    sym (both (ap not (ne_eqb (get_or name 0 0) 0 J.starts)) (subst (λ k. padded k name ≡ true) q J.whole))

pub judging_empty : (name : List ℕ) → get_or name 0 0 ≡ 0 → false ≡ legal name
unfolding legal
judging_empty name e = sym (left_false (padded 15 name) (ap not (eq-eqb (get_or name 0 0) 0 e)))
