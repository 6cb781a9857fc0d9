-- Findings written behind others, two places each.
use mathlib.Core.Path.{◌≡◌, refl, sym, ap, subst, subst⁻¹, ◌∙◌}
use mathlib.Core.List.{List, [], ◌∷◌, ◌++◌, append_assoc, append-nil}
use mathlib.Core.Bool.{Bool, true, false, not}
use Prim.Native.Nat.{ℕ, zero, suc, ◌+◌, ◌*◌, ◌≤◌, ◌<◌}
use native.Mathlib.Omega.{arith}
use lib.ListN.{length, set, length-set, length-append}
use lib.Seq.{sets}
use borrow.Author.Tests.{not-true, not-false}
use Rattle.fat_walk.proofs.Blocks.{sets_append}
use Rattle.audit_inner.specs.Findings.{Finding, finding, when, flat}
use Rattle.audit_inner.specs.Inner.Marks.{Wrote, Put, told, PutFile}
use Rattle.audit_inner.specs.declared.Judged.{Judged}

pub flat_append : (a b : List Finding) → flat (a ++ b) ≡ flat a ++ flat b
flat_append [] b = refl
flat_append (f ∷ a) b = ap (λ (l : List ℕ). f.kind ∷ f.number ∷ l) (flat_append a b)

pub length_flat : (a : List Finding) → length (flat a) ≡ 2 * length a
length_flat [] = refl
length_flat (f ∷ a) = omega (arith, length_flat a)

-- one finding
module _ (k x found : ℕ) (l₀ : List ℕ) (out : List Finding) (l : List ℕ) (e : found ≡ length out) (w : Wrote l₀ out l) where
  longer : length (out ++ finding k x ∷ []) ≡ found + 1
  longer = omega (arith, length-append out (finding k x ∷ []), e)

  pub write_short : length l < 2 * found + 2 → Wrote l₀ (out ++ finding k x ∷ []) l
  write_short h = record { long = w.long; is = λ r. let z : ⊥ = omega (arith, longer, h, r, w.long) in absurd z }

  pub write_long : Wrote l₀ (out ++ finding k x ∷ []) (set (set l (2 * found) k) (2 * found + 1) x)
  write_long = record {
    long = length-set (set l (2 * found) k) (2 * found + 1) x ∙ length-set l (2 * found) k ∙ w.long;
    is = λ r.
        let h : 2 * length out ≤ length l₀ = omega (arith, longer, r, e) in
        let i : 2 * found ≡ 0 + length (flat out) = omega (arith, length_flat out, e) in
        let j : 2 * found + 1 ≡ suc (0 + length (flat out)) = omega (arith, i) in
        ap (λ (v : List ℕ). set (set v (2 * found) k) (2 * found + 1) x) (w.is h)
        ∙ ap (λ (m : ℕ). set (set (sets l₀ 0 (flat out)) m k) (2 * found + 1) x) i
        ∙ ap (λ (m : ℕ). set (set (sets l₀ 0 (flat out)) (0 + length (flat out)) k) m x) j
        ∙ sym (sets_append (flat out) (k ∷ x ∷ []) l₀ 0)
        ∙ ap (λ (v : List ℕ). sets l₀ 0 v) (sym (flat_append out (finding k x ∷ [])));
  }

-- none, where it does not apply; and one
pub put_none : (found : ℕ) (l : List ℕ) → Put found [] l l found
put_none found l = record { count = omega arith; wrote = λ l₀ out e w. subst⁻¹ (λ (o : List Finding). Wrote l₀ o l) (append-nil out) w }

pub put_not : (t : Bool) (f : Finding) (found : ℕ) (l : List ℕ) → not t ≡ true → Put found (when t f) l l found
put_not t f found l e = subst⁻¹ (λ (x : Bool). Put found (when x f) l l found) (not-true t e) (put_none found l)

pub put_one : (t : Bool) (k x found : ℕ) (l l' : List ℕ) → not t ≡ false
    → ((l₀ : List ℕ) (out : List Finding) → found ≡ length out → Wrote l₀ out l → Wrote l₀ (out ++ finding k x ∷ []) l') → Put found (when t (finding k x)) l l' (found + 1)
put_one t k x found l l' e f = subst⁻¹ (λ (y : Bool). Put found (when y (finding k x)) l l' (found + 1)) (not-false t e) (record { count = refl; wrote = f })

-- some, and then some more
pub put_then : (a b c : ℕ) (m m' : List Finding) (l l₁ l₂ : List ℕ) → Put a m l l₁ b → Put b m' l₁ l₂ c → Put a (m ++ m') l l₂ c
put_then a b c m m' l l₁ l₂ p q = record {
  count = omega (arith, p.count, q.count, length-append m m');
  wrote = λ l₀ out e w.
      subst (λ (o : List Finding). Wrote l₀ o l₂) (append_assoc out m m')
      (q.wrote l₀ (out ++ m) (omega (arith, p.count, e, length-append out m)) (p.wrote l₀ out e w));
}

pub when_most : (t : Bool) (f : Finding) → length (when t f) ≤ 1
when_most true f = omega arith
when_most false f = omega arith

-- the three of an inode
module _ (j : Judged) (y a b c d : ℕ) (l l₁ l₂ l₃ : List ℕ) (p : Put a (when j.astray (finding 1 y)) l l₁ b) (q : Put b (when j.shared (finding 2 y)) l₁ l₂ c)
    (r : Put c (when j.over (finding 3 y)) l₂ l₃ d) where
  pub put_three : PutFile a j y l l₃ d
  put_three = record {
    put = put_then a b d _ _ l l₁ l₃ p (put_then b c d _ _ l₁ l₂ l₃ q r);
    most = omega (arith, p.count, q.count, r.count, when_most j.astray (finding 1 y), when_most j.shared (finding 2 y), when_most j.over (finding 3 y));
  }

pub put_fits_2 : (t : Bool) (k y a b : ℕ) (l l' : List ℕ) → Put a (when t (finding k y)) l l' b → a ≤ 1000000 → b ≤ 2000000
put_fits_2 t k y a b l l' p h = omega (arith, p.count, when_most t (finding k y), h)

pub put_fits_3 : (t u : Bool) (k j y z a b c : ℕ) (l l' l'' : List ℕ) → Put a (when t (finding k y)) l l' b → Put b (when u (finding j z)) l' l'' c → a ≤ 1000000 → c ≤ 2000000
put_fits_3 t u k j y z a b c l l' l'' p q h = omega (arith, p.count, q.count, when_most t (finding k y), when_most u (finding j z), h)
