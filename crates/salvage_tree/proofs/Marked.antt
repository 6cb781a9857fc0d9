-- What was met: the tests, the marks, and the list from marks.
use mathlib.Core.Path.{◌≡◌, refl, sym, ap, ◌∙◌}
use mathlib.Core.List.{List, [], ◌∷◌}
use mathlib.Core.Bool.{Bool, true, false, cond}
use Prim.Native.Nat.{ℕ, zero, suc, ◌≤◌, ◌<◌}
use native.Mathlib.Omega.{arith}
use lib.Dec.{eqb}
use lib.ListN.{length, get_or, set, replicate}
use lib.Seq.{get_or-set_same, get_or-set_other}
use borrow.Author.Tests.{eq-eqb, ne_eqb, lt-ltb, le-ltb}
use Rattle.links.specs.Change.{pick}
use Rattle.links.proofs.Laws.{by_eq}
use Rattle.tree_table.specs.Chain.{member}
use Rattle.salvage_tree.specs.Entries.{goes, met_from, others}
use Rattle.salvage_tree.specs.Inner.Says.{Marks, unmarked}

-- ---- one step

module _ (n : ℕ) (met : List ℕ) where
  pub stops_zero : (x : ℕ) → x ≡ 0 → goes n met x ≡ false
  unfolding goes
  stops_zero x e = rw (le-ltb 0 x (omega (arith, e)))

  pub stops_over : (x : ℕ) → 0 < x → n ≤ x → goes n met x ≡ false
  unfolding goes
  stops_over x p h = rw (lt-ltb 0 x p, le-ltb x n h)

  pub stops_met : (x : ℕ) → 0 < x → x < n → member x met ≡ true → goes n met x ≡ false
  unfolding goes
  stops_met x p h e = rw (lt-ltb 0 x p, lt-ltb x n h, e)

  pub goes_on : (x : ℕ) → 0 < x → x < n → member x met ≡ false → goes n met x ≡ true
  unfolding goes
  goes_on x p h e = rw (lt-ltb 0 x p, lt-ltb x n h, e)

pub met_stop : (k : ℕ) (next : ℕ → ℕ) (n : ℕ) (met : List ℕ) (x : ℕ) → goes n met x ≡ false → met_from k next n met x ≡ met
met_stop zero next n met x e = refl
met_stop (suc k) next n met x e = rw e

pub met_on : (k : ℕ) (next : ℕ → ℕ) (n : ℕ) (met : List ℕ) (x : ℕ) → goes n met x ≡ true → met_from (suc k) next n met x ≡ met_from k next n (x ∷ met) (next x)
met_on k next n met x e = rw e

-- ---- marks

pub marks_none : (n : ℕ) (work : List ℕ) → work ≡ replicate n 0 → Marks work []
marks_none n work e = record { at = λ y. ap (λ (l : List ℕ). get_or l y 0) e ∙ zeros n y }
  where
    zeros : (n x : ℕ) → ◌≡◌ {A = ℕ} (get_or (replicate n 0) x 0) 0
    zeros zero x = refl
    zeros (suc n) zero = refl
    zeros (suc n) (suc x) = zeros n x

module _ (work met : List ℕ) (x : ℕ) (m : Marks work met) where
  pub marked_met : (get_or work x 0 ≡ 0 → ⊥) → member x met ≡ true
  marked_met h = go (member x met) refl
    where
      go : (b : Bool) → member x met ≡ b → member x met ≡ true
      go true e = e
      go false e = absurd (h (m.at x ∙ ap (λ (b : Bool). cond b 1 0) e))

  pub free_met : get_or work x 0 ≡ 0 → member x met ≡ false
  free_met h = go (member x met) refl
    where
      go : (b : Bool) → member x met ≡ b → member x met ≡ false
      go true e = let z : ◌≡◌ {A = ℕ} (cond true 1 0) 0 = ap (λ (b : Bool). cond b 1 0) (sym e) ∙ sym (m.at x) ∙ h in absurd (omega (arith, z))
      go false e = e

  pub marks_on : x < length work → Marks (set work x 1) (x ∷ met)
  marks_on h = record {
    at = λ y. by_eq x y (λ (b : Bool). get_or (set work x 1) y 0 ≡ cond (pick b true (member y met)) 1 0)
        (λ e. ap (λ (z : ℕ). get_or (set work x 1) z 0) (sym e) ∙ get_or-set_same work x 1 0 h)
        (λ e. get_or-set_other work x y 1 0 (λ q. e (sym q)) ∙ m.at y);
  }

-- ---- the list from marks

pub marks_others : (k x : ℕ) (work met : List ℕ) → Marks work met → unmarked k x work ≡ others k x met
marks_others zero x work met m = refl
marks_others (suc k) x work met m = go (member x met) (m.at x) (marks_others k (suc x) work met m)
  where
    go : (b : Bool) → get_or work x 0 ≡ cond b 1 0 → unmarked k (suc x) work ≡ others k (suc x) met
        → cond (eqb (get_or work x 0) 0) (x ∷ unmarked k (suc x) work) (unmarked k (suc x) work) ≡ cond b (others k (suc x) met) (x ∷ others k (suc x) met)
    go true e ih = rw (ne_eqb (get_or work x 0) 0 (λ z. omega (arith, z, e))) ih
    go false e ih = rw (eq-eqb (get_or work x 0) 0 e) (ap {B = List ℕ} (λ l. x ∷ l) ih)

pub unmarked_free : (k x : ℕ) (work : List ℕ) → get_or work x 0 ≡ 0 → unmarked (suc k) x work ≡ x ∷ unmarked k (suc x) work
unmarked_free k x work e = rw (eq-eqb (get_or work x 0) 0 e)

pub unmarked_not : (k x : ℕ) (work : List ℕ) → (get_or work x 0 ≡ 0 → ⊥) → unmarked (suc k) x work ≡ unmarked k (suc x) work
unmarked_not k x work e = rw (ne_eqb (get_or work x 0) 0 e)
