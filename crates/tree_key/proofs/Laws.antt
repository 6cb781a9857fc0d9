-- What the hash's code computes, and that `same_key` decides equality.
use mathlib.Core.Path.{◌≡◌, refl, ap, ap₂, ◌∙◌}
use mathlib.Core.List.{List, [], ◌∷◌}
use mathlib.Core.Bool.{Bool, true, false, ◌&&◌}
use Prim.Native.Nat.{ℕ, ◌+◌, ◌*◌, ◌/◌, ◌%◌, ◌^◌, ◌<◌}
use native.Mathlib.Omega.{arith}
use lib.Dec.{eqb}
use lib.Bits.{bit_or, or_shifted_r}
use borrow.Author.Tests.{eqb-true, eq-eqb}
use Rattle.std.specs.List.{fold}
use Rattle.tree_key.specs.Hash.{rotated, mix, mixed, hash_of}
use Rattle.tree_key.specs.Key.{same_key}

-- h rotated right by 1
pub rotated_is : (h : ℕ) → h < 2 ^ 32 → bit_or (h / 2) (h * 2147483648 % 4294967296) ≡ rotated h
unfolding rotated
rotated_is h f =
    let e : h * 2147483648 % 4294967296 ≡ h % 2 * 2147483648 = omega arith in
    let b : h / 2 < 2 ^ 31 = omega arith in
    let o : bit_or (h / 2) (h % 2 * 2 ^ 31) ≡ h % 2 * 2 ^ 31 + h / 2 = or_shifted_r (h % 2) 31 (h / 2) b in
    ap (bit_or (h / 2)) e ∙ o ∙ omega arith

-- the hash as a fold over the words
pub folded : (key : List ℕ) → fold mix 0x12345678 key ≡ hash_of key
unfolding hash_of
folded key = from 0x12345678 key
  where
    from : (h : ℕ) (ws : List ℕ) → fold mix h ws ≡ mixed h ws
    from h [] = refl
    from h (w ∷ ws) = from (mix h w) ws

-- keys that are the same are equal
pub same_equal : (k l : List ℕ) → same_key k l ≡ true → k ≡ l
same_equal [] [] e = refl
same_equal [] (b ∷ l) e = let z : ◌≡◌ {A = Bool} false true = e in absurd (let y : ◌≡◌ {A = ℕ} 0 1 = cc in omega arith)
same_equal (a ∷ k) [] e = let z : ◌≡◌ {A = Bool} false true = e in absurd (let y : ◌≡◌ {A = ℕ} 0 1 = cc in omega arith)
same_equal (a ∷ k) (b ∷ l) e = go (eqb a b) refl e (same_equal k l)
  where
    go : (t : Bool) → eqb a b ≡ t → (t && same_key k l) ≡ true → (same_key k l ≡ true → k ≡ l) → a ∷ k ≡ b ∷ l
    go true q r f = ap₂ (λ x y. x ∷ y) (eqb-true a b q) (f r)
    go false q r f = absurd (let y : ◌≡◌ {A = ℕ} 0 1 = cc in omega arith)

-- and equal ones are the same
pub equal_same : (k l : List ℕ) → k ≡ l → same_key k l ≡ true
equal_same [] [] e = refl
equal_same [] (b ∷ l) e = absurd (let y : ◌≡◌ {A = ℕ} 0 1 = cc in omega arith)
equal_same (a ∷ k) [] e = absurd (let y : ◌≡◌ {A = ℕ} 0 1 = cc in omega arith)
equal_same (a ∷ k) (b ∷ l) e =
    let p : a ≡ b = cc in
    let q : k ≡ l = cc in
    ap₂ (λ x y. x && y) (eq-eqb a b p) (equal_same k l q)
