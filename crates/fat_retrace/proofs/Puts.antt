-- Calls written into a list, one part after the other.
use mathlib.Core.Path.{◌≡◌, refl, sym, ap, ◌∙◌}
use mathlib.Core.List.{List, [], ◌∷◌, ◌++◌}
use Prim.Native.Nat.{ℕ, ◌+◌, ◌*◌}
use native.Mathlib.Omega.{arith}
use lib.ListN.{length, length-append}
use lib.Seq.{sets, length-sets}
use Rattle.fat_walk.proofs.Blocks.{sets_append}
use Rattle.fat_retrace.specs.History.{Call, create, delete, encoded}
use Rattle.fat_retrace.specs.Inner.Written.{Written}

encoded_append : (g h : List Call) → encoded (g ++ h) ≡ encoded g ++ encoded h
encoded_append [] h = refl
encoded_append (create c ∷ g) h = ap {B = List ℕ} (λ x. 0 ∷ c ∷ x) (encoded_append g h)
encoded_append (delete b ∷ g) h = ap {B = List ℕ} (λ x. 1 ∷ b ∷ x) (encoded_append g h)

pub length_encoded : (h : List Call) → length (encoded h) ≡ 2 * length h
length_encoded [] = refl
length_encoded (create c ∷ h) = omega (arith, length_encoded h)
length_encoded (delete b ∷ h) = omega (arith, length_encoded h)

pub written_none : (k : ℕ) (l : List ℕ) → Written [] k l k l
written_none k l = record { next = omega arith; is = refl }

pub written_long : {h : List Call} {k r : ℕ} {l l' : List ℕ} → Written h k l r l' → length l' ≡ length l
written_long {h} {k} {r} {l} {l'} w = ap {B = ℕ} length w.is ∙ length-sets l (2 * k) (encoded h)

pub written_on : {g h : List Call} {k r s : ℕ} {l l' l'' : List ℕ} → Written g k l r l' → Written h r l' s l'' → Written (g ++ h) k l s l''
written_on {g} {h} {k} {r} {s} {l} {l'} {l''} v w =
    let e : 2 * r ≡ 2 * k + length (encoded g) = omega (arith, v.next, length_encoded g) in
    record {
      next = omega (arith, v.next, w.next, length-append g h);
      is = w.is
          ∙ ap (λ (x : List ℕ). sets x (2 * r) (encoded h)) v.is
          ∙ ap (λ (x : ℕ). sets (sets l (2 * k) (encoded g)) x (encoded h)) e
          ∙ sym (sets_append (encoded g) (encoded h) l (2 * k))
          ∙ ap (λ (x : List ℕ). sets l (2 * k) x) (sym (encoded_append g h));
    }

-- two numbers in their places are one call
pub put_create : (l l' : List ℕ) (k c r : ℕ) → r ≡ k + 1 → l' ≡ sets l (2 * k) (0 ∷ c ∷ []) → Written (create c ∷ []) k l r l'
put_create l l' k c r n e = record { next = n; is = e }

pub put_delete : (l l' : List ℕ) (k b r : ℕ) → r ≡ k + 1 → l' ≡ sets l (2 * k) (1 ∷ b ∷ []) → Written (delete b ∷ []) k l r l'
put_delete l l' k b r n e = record { next = n; is = e }
