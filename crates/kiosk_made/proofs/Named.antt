-- A name that stands in an entry by its four words stands there byte by byte.
use mathlib.Core.Path.{◌≡◌, refl, sym, ap, ◌∙◌}
use mathlib.Core.List.{List}
use mathlib.Core.Logic.{◌⊎◌, inl, inr, ⊎_elim}
use Prim.Native.Nat.{ℕ, ◌+◌, ◌-◌, ◌*◌, ◌≤◌, ◌<◌}
use native.Mathlib.Omega.{arith}
use lib.ListN.{length, get_or, take, drop, length-drop}
use lib.Seq.{length-take-le, ext_get_or, get_or-take, get_or-drop}
use Rattle.words.specs.Word.{word, AreBytes}
use Rattle.fat_node.proofs.Nodes.{le_or_lt}
use Rattle.kiosk_inner.specs.Profile.{name_of}

-- two words that are the same have the same bytes
module _ (s t : List ℕ) (a b : ℕ) (gs : AreBytes s) (gt : AreBytes t) (e : word s a ≡ word t b) where
  four_same : (get_or s a 0 ≡ get_or t b 0) × (get_or s (a + 1) 0 ≡ get_or t (b + 1) 0) × (get_or s (a + 2) 0 ≡ get_or t (b + 2) 0) × (get_or s (a + 3) 0 ≡ get_or t (b + 3) 0)
  unfolding word
  four_same = (
    omega (arith, e, gs a, gs (a + 1), gs (a + 2), gs (a + 3), gt b, gt (b + 1), gt (b + 2), gt (b + 3)),
    omega (arith, e, gs a, gs (a + 1), gs (a + 2), gs (a + 3), gt b, gt (b + 1), gt (b + 2), gt (b + 3)),
    omega (arith, e, gs a, gs (a + 1), gs (a + 2), gs (a + 3), gt b, gt (b + 1), gt (b + 2), gt (b + 3)),
    omega (arith, e, gs a, gs (a + 1), gs (a + 2), gs (a + 3), gt b, gt (b + 1), gt (b + 2), gt (b + 3)),
  )

  pub byte_of : (r : ℕ) → r < 4 → get_or s (a + r) 0 ≡ get_or t (b + r) 0
  byte_of r h =
      ⊎_elim
      (λ (k : r < 1).
      let p : a + 0 ≡ a = omega arith in
      let q : b ≡ b + 0 = omega arith in
      at 0 (omega (arith, k)) (ap (λ (i : ℕ). get_or s i 0) p ∙ four_same.0 ∙ ap (λ (i : ℕ). get_or t i 0) q))
      (λ (k : 1 ≤ r).
      ⊎_elim
      (λ (j : r < 2). at 1 (omega (arith, k, j)) four_same.1)
      (λ (j : 2 ≤ r). ⊎_elim (λ (i : r < 3). at 2 (omega (arith, j, i)) four_same.2) (λ (i : 3 ≤ r). at 3 (omega (arith, i, h)) four_same.3) (lt_or_le r 3))
      (lt_or_le r 2))
      (lt_or_le r 1)
    where
      lt_or_le : (x y : ℕ) → (x < y) ⊎ (y ≤ x)
      lt_or_le x y = ⊎_elim (λ k. inr k) (λ k. inl k) (le_or_lt y x)

      at : (k : ℕ) → r ≡ k → get_or s (a + k) 0 ≡ get_or t (b + k) 0 → get_or s (a + r) 0 ≡ get_or t (b + r) 0
      at k q p = ap (λ (i : ℕ). get_or s (a + i) 0) q ∙ p ∙ ap (λ (i : ℕ). get_or t (b + i) 0) (sym q)

module _ (f name : List ℕ) (x : ℕ) (gf : AreBytes f) (gn : AreBytes name) (inside : x * 48 + 48 ≤ length f) (sixteen : length name ≡ 16)
    (e₀ : word f (x * 48 + 4) ≡ word name 0) (e₁ : word f (x * 48 + 8) ≡ word name 4) (e₂ : word f (x * 48 + 12) ≡ word name 8) (e₃ : word f (x * 48 + 16) ≡ word name 12) where
  byte_in : (j : ℕ) → j < 16 → get_or f (x * 48 + 4 + j) 0 ≡ get_or name j 0
  byte_in j h =
      ⊎_elim
      (λ (k : 8 ≤ j).
      ⊎_elim (λ (i : 12 ≤ j). part 12 16 (omega arith) i (omega (arith, h)) e₃) (λ (i : j < 12). part 8 12 (omega arith) k (omega (arith, i)) e₂) (le_or_lt 12 j))
      (λ (k : j < 8).
      ⊎_elim (λ (i : 4 ≤ j). part 4 8 (omega arith) i (omega (arith, k)) e₁) (λ (i : j < 4). part 0 4 (omega arith) (omega arith) (omega (arith, i)) e₀) (le_or_lt 4 j))
      (le_or_lt 8 j)
    where
      part : (b a : ℕ) → a ≡ b + 4 → b ≤ j → j - b < 4 → word f (x * 48 + a) ≡ word name b → get_or f (x * 48 + 4 + j) 0 ≡ get_or name j 0
      part b a q low high e =
          let u : x * 48 + 4 + j ≡ x * 48 + a + (j - b) = omega (arith, q, low) in
          let v : b + (j - b) ≡ j = omega (arith, low) in
          ap (λ (i : ℕ). get_or f i 0) u ∙ byte_of f name (x * 48 + a) b gf gn e (j - b) high ∙ ap (λ (i : ℕ). get_or name i 0) v

  pub name_is : name_of f x ≡ name
  unfolding name_of
  name_is =
      let p : length (take 16 (drop (x * 48 + 4) f)) ≡ 16 = length-take-le 16 (drop (x * 48 + 4) f) (omega (arith, length-drop (x * 48 + 4) f, inside)) in
      ext_get_or 0 (take 16 (drop (x * 48 + 4) f)) name (p ∙ sym sixteen)
      (λ i h. let k : i < 16 = omega (arith, h, p) in get_or-take 16 (drop (x * 48 + 4) f) i 0 k ∙ get_or-drop (x * 48 + 4) f i 0 ∙ byte_in i k)
