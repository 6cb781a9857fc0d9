-- There is a directory but the root exactly where the root's list has one.
use mathlib.Core.Path.{◌≡◌, refl, sym, ap, subst, ◌∙◌}
use mathlib.Core.List.{List, [], ◌∷◌}
use mathlib.Core.Bool.{Bool, true, false, not}
use mathlib.Core.Logic.{◌≢◌, ◌⊎◌, inl, inr, ⊎_elim}
use Prim.Native.Nat.{ℕ, zero, suc, ◌+◌, ◌*◌, ◌≤◌, ◌<◌}
use native.Mathlib.Omega.{arith}
use lib.Dec.{eqb}
use lib.ListN.{length}
use borrow.Author.Tests.{eqb-true, eqb-false, not-true, not-false}
use Rattle.links.specs.Links.{◌∈◌, Links}
use Rattle.links.proofs.Held.{same_or}
use Rattle.fat_node.specs.Entry.{Bytes}
use Rattle.tree_table.specs.Chain.{link_at}
use Rattle.tree_table.specs.Field.{field, next_field, sub_dir_field}
use Rattle.kiosk_inner.specs.Profile.{LiveDir, OtherDirectory}
use Rattle.kiosk_inner.specs.Inner.Judge.{above, Rooted, Decides}

-- a list that starts at 0 holds none
empty : (nx : ℕ → ℕ) (h : ℕ) (xs : List ℕ) → Links nx h xs → h ≡ 0 → (y : ℕ) → y ∈ xs → ⊥
empty nx h [] l e y i = i
empty nx h (x ∷ xs) l e y i = omega (arith, l.0, l.1, e)

-- one that starts elsewhere holds its first
begins : (nx : ℕ → ℕ) (h : ℕ) (xs : List ℕ) → Links nx h xs → (h ≡ 0 → ⊥) → h ∈ xs
begins nx h [] l e = absurd (e l)
begins nx h (x ∷ xs) l e = inl l.0

module _ (d : Bytes) (R : Rooted d) where
  -- going up from a directory that is not the root one comes to one whose parent is the root
  below_root : (xs : List ℕ) (y : ℕ) → LiveDir d y → (y ≡ 1 → ⊥) → Links (above d) y xs → 1 ∈ xs → (z : ℕ) × LiveDir d z × (above d z ≡ 1)
  below_root [] y v ne l i = absurd i
  below_root (x ∷ xs) y v ne l i =
      ⊎_elim
      (λ (e : above d y ≡ 1). (y, v, e))
      (λ (k : above d y ≢ 1).
      below_root xs (above d y) (R.parents y v ne) k (subst (λ (z : ℕ). Links (above d) (above d z) xs) (sym l.0) l.2)
      (⊎_elim (λ (e : 1 ≡ x). absurd (ne (l.0 ∙ sym e))) (λ j. j) i))
      (same_or (above d y) 1)

  pub directory_decided : (first : ℕ) → first ≡ link_at d 40 24 1 → Decides (not (eqb first 0)) (OtherDirectory d)
  unfolding field
  directory_decided first e = record { yes = λ q. some (λ z. eqb-false first 0 (not-true (eqb first 0) q) z); no = λ q w. none (eqb-true first 0 (not-false (eqb first 0) q)) w }
    where
      some : (first ≡ 0 → ⊥) → OtherDirectory d
      some h =
          let L = R.list in
          let i : first ∈ L.0 = subst (λ (x : ℕ). x ∈ L.0) (sym e) (begins _ _ L.0 L.1 (λ z. h (e ∙ z))) in
          let p = (L.2 first).0 i in
          (first, p.0, λ z. let q : above d first ≡ 0 = ap (above d) z ∙ R.root in omega (arith, q, p.1))

      none : first ≡ 0 → OtherDirectory d → ⊥
      none z w =
          let L = R.list in
          let r = R.reach w.0 w.1 in
          let b = below_root r.0 w.0 w.1 w.2 r.1 r.2 in
          empty _ _ L.0 L.1 (sym e ∙ z) b.0 ((L.2 b.0).1 (b.1, b.2))

  pub root_inside : 1 * 40 + 40 ≤ length d
  root_inside = omega (arith, R.room)
