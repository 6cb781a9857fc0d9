-- One more node behind a waiting one.
use mathlib.Core.Path.{◌≡◌, refl, sym, ap, ◌∙◌}
use mathlib.Core.List.{◌∷◌}
use Prim.Native.Nat.{ℕ, zero, suc, ◌+◌, ◌≤◌}
use native.Mathlib.Omega.{arith}
use Rattle.fat_node.specs.Entry.{Bytes}
use Rattle.fat_node.specs.Node.{run, set_node}
use Rattle.fat_table.specs.Steps.{lay}
use Rattle.fat_place.specs.Inner.Carving.{Waits, unwritten, written, PutSays}

-- nothing is put
pub put_none : (n : ℕ) (t : Bytes) (s b p f s₁ b₁ : ℕ) → Waits n s b p → s₁ ≡ 0 → PutSays n t s b p f s₁ b₁ t s b p f
put_none n t s b p f zero b₁ w e = record {
  lays = λ l. refl;
  firsts = λ l. refl;
  wrote = unwritten refl;
  waits = w;
  only = λ x. omega arith;
}
put_none n t s b p f (suc s₁) b₁ w e = let z : ⊥ = omega (arith, e) in absurd z

-- nothing waited
pub put_first : (n : ℕ) (t : Bytes) (s b p f s₁ b₁ i : ℕ) → Waits n s b p → s ≡ 0 → (s₁ ≡ 0 → ⊥) → (b₁ + s₁ ≤ n) → i ≡ b₁ + 1
    → PutSays n t s b p f s₁ b₁ t s₁ b₁ 0 i
put_first n t (suc s) b p f s₁ b₁ i w e h g k = let z : ⊥ = omega (arith, e) in absurd z
put_first n t zero b p f zero b₁ i w e h g k = absurd (h refl)
put_first n t zero b p f (suc s₁) b₁ i w e h g k =
    let j : suc b₁ ≡ i = omega (arith, k) in
    record {
      lays = λ l. ap (λ (y : ℕ). lay (run b₁ (suc s₁) ∷ l) y t) (w.none refl);
      firsts = λ l. j;
      wrote = unwritten refl;
      waits = record { within = g; prev = omega arith; none = λ z. refl };
      only = λ x. omega arith;
    }

-- the waiting node is written
pub put_next : (n : ℕ) (t : Bytes) (s b p f s₁ b₁ i : ℕ) → Waits n s b p → (s ≡ 0 → ⊥) → (s₁ ≡ 0 → ⊥) → (b₁ + s₁ ≤ n) → i ≡ b₁ + 1
    → (t' : Bytes) → t' ≡ set_node t (run b s) p i → PutSays n t s b p f s₁ b₁ t' s₁ b₁ (b + 1) f
put_next n t zero b p f s₁ b₁ i w h₀ h g k t' e = absurd (h₀ refl)
put_next n t (suc s) b p f zero b₁ i w h₀ h g k t' e = absurd (h refl)
put_next n t (suc s) b p f (suc s₁) b₁ i w h₀ h g k t' e =
    let j : suc b₁ ≡ i = omega (arith, k) in
    let d : suc b ≡ b + 1 = omega arith in
    let q : set_node t (run b (suc s)) p (suc b₁) ≡ t' = ap (set_node t (run b (suc s)) p) j ∙ sym e in
    record {
      lays = λ l. ap (lay (run b₁ (suc s₁) ∷ l) (suc b)) q ∙ ap (λ (y : ℕ). lay (run b₁ (suc s₁) ∷ l) y t') d;
      firsts = λ l. refl;
      wrote = written (omega arith) (sym q);
      waits = record { within = g; prev = omega (arith, w.within); none = λ z. absurd (h z) };
      only = λ x. omega arith;
    }
