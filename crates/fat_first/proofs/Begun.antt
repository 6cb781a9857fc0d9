-- The first blocks of a table that holds a layout are those of the layout's files.
use mathlib.Core.Path.{◌≡◌, refl, sym, ap, ◌∙◌}
use mathlib.Core.List.Permᴰ
use mathlib.Core.List.{List, [], ◌∷◌, ◌++◌, Permᴰ}
use mathlib.Core.Bool.{Bool, true, false, cond}
use mathlib.Core.Logic.{⊎_elim}
use Prim.Native.Nat.{ℕ, zero, suc, ◌+◌, ◌≤◌, ◌<◌}
use native.Mathlib.Omega.{arith}
use lib.Dec.{eqb}
use borrow.Author.Tests.{eqb-true, eq-eqb}
use Rattle.fat_node.specs.Entry.{Bytes}
use Rattle.fat_node.specs.Node.{Run, run}
use Rattle.fat_node.proofs.Nodes.{le_or_lt}
use Rattle.fat_table.specs.Sound.{File}
use Rattle.fat_table.specs.Layout.{layout, taken, joined, covers, empties}
use Rattle.fat_table.specs.Steps.{first}
use Rattle.fat_table.specs.Holds.{Holds}
use Rattle.fat_table.proofs.Layouts.{hits_most, covers_append, empties_append}
use Rattle.fat_table.proofs.Stepped.{holds_order}
use Rattle.fat_table.proofs.Files.{Whole, first_covered, is_file, file_of}
use Rattle.fat_table.proofs.Decided.{file_decided}
use Rattle.fat_first.specs.Firsts.{first_at}
use Rattle.fat_first.proofs.Firsts.{file_first, none_first}

-- 1 where index i is that of block x, else 0
unfoldable pub same : (i x : ℕ) → ℕ
same i x = cond (eqb i (suc x)) 1 0

module _ (i x : ℕ) where
  pub same_yes : i ≡ suc x → same i x ≡ 1
  unfolding same
  same_yes e = rw (eq-eqb i (suc x) e)

  pub same_some : 1 ≤ same i x → i ≡ suc x
  unfolding same
  same_some h = go (eqb i (suc x)) refl h
    where
      go : (b : Bool) → eqb i (suc x) ≡ b → 1 ≤ cond {A = ℕ} b 1 0 → i ≡ suc x
      go true e k = eqb-true i (suc x) e
      go false e k = let z : ⊥ = omega (arith, k) in absurd z

  pub same_most : same i x ≤ 1
  unfolding same
  same_most = go (eqb i (suc x))
    where
      go : (b : Bool) → cond {A = ℕ} b 1 0 ≤ 1
      go true = omega arith
      go false = omega arith

-- how many chains of the list begin at block x
abbrev pub begun : List (List Run) → ℕ → ℕ
begun [] x = 0
begun (f ∷ fs) x = same (first f) x + begun fs x

begun_perm : (x : ℕ) {fs gs : List (List Run)} → Permᴰ fs gs → begun fs x ≡ begun gs x
begun_perm x Permᴰ.nil = refl
begun_perm x (Permᴰ.cons e p) = omega (arith, ap (λ (f : List Run). same (first f) x) e, begun_perm x p)
begun_perm x (Permᴰ.swap e e') = omega (arith, ap (λ (f : List Run). same (first f) x) e, ap (λ (f : List Run). same (first f) x) e')
begun_perm x (Permᴰ.trans p q) = begun_perm x p ∙ begun_perm x q

-- a chain that begins at a block covers it
covered : (f : List Run) (x : ℕ) → empties f ≡ 0 → same (first f) x ≤ covers x f
covered f x h = ⊎_elim
    (λ k. omega (arith, same_most (first f) x, first_covered f x (same_some (first f) x k) h))
    (λ k. omega (arith, k))
    (le_or_lt 1 (same (first f) x))

begun_most : (fs : List (List Run)) (x : ℕ) → empties (joined fs) ≡ 0 → begun fs x ≤ covers x (joined fs)
begun_most [] x h = omega arith
begun_most (f ∷ fs) x h =
    let e : empties f + empties (joined fs) ≡ 0 = omega (arith, h, empties_append f (joined fs)) in
    omega (arith, covered f x (omega arith), begun_most fs x (omega arith), covers_append x f (joined fs))

begun_some : (fs : List (List Run)) (x : ℕ) → 1 ≤ begun fs x → (f : List Run) × (gs : List (List Run)) × Permᴰ fs (f ∷ gs) × (first f ≡ suc x)
begun_some [] x h = let z : ⊥ = omega (arith, h) in absurd z
begun_some (f ∷ fs) x h = ⊎_elim
    (λ k. (f, fs, Permᴰ.refl (f ∷ fs), same_some (first f) x k))
    (λ k.
    let w = begun_some fs x (omega (arith, h, k)) in
    (w.0, f ∷ w.1, Permᴰ.trans (Permᴰ.cons refl w.2) (Permᴰ.swap refl refl), w.3))
    (le_or_lt 1 (same (first f) x))

module _ (n : ℕ) (t : Bytes) (w : Whole n t) (free : List Run) (files : List (List Run)) (s : Holds n t (layout free files)) where
  at_most : (x : ℕ) → begun files x ≤ 1
  at_most x =
      let e : empties free + empties (joined files) ≡ 0 = omega (arith, s.tiled.positive, empties_append free (joined files)) in
      omega (arith, begun_most files x (omega arith), covers_append x free (joined files), s.tiled.once x, hits_most x (run 0 n))

  pub first_begun : (x : ℕ) → first_at n t x ≡ begun files x
  first_begun x = ⊎_elim
      (λ f.
      let o = file_of n w.small t (layout free files) x s f in
      omega (arith, file_first n t w x f, at_most x, begun_perm x o.2, same_yes (first o.0) x o.3))
      (λ h. ⊎_elim
      (λ k. let o = begun_some files x k in absurd (h (is_file n w.small t free o.0 o.1 x (holds_order o.2 s) o.3)))
      (λ k. omega (arith, none_first n t w x h, k))
      (le_or_lt 1 (begun files x)))
      (file_decided n t x w)
