-- The child lists of all directories in one table: what the marks say once they were gone along, and each entry looked at.
use mathlib.Core.Path.{◌≡◌, refl, sym, ◌∙◌, subst}
use mathlib.Core.List.{List}
use mathlib.Core.Logic.{◌⊎◌, inl, inr, ⊎_elim, ◌≢◌}
use Prim.Native.Nat.{ℕ, ◌≤◌, ◌<◌}
use native.Mathlib.Omega.{arith}
use Rattle.links.specs.Links.{◌∈◌, Holds}
use Rattle.links.proofs.Laws.{one_list}
use Rattle.links.proofs.Held.{same_or}
use Rattle.tree_marks.specs.Inner.Marks.{gone}
use Rattle.tree_table.specs.View.{Live}
use Rattle.tree_marks.specs.Inner.Gather.{Gathered, ParentMarked}
use Rattle.tree_marks.proofs.Gathering.{in_or, gathered}

-- f is the parent that an entry names; n and RD are the count and the removed entries of the directories
module _ (nx head f : ℕ → ℕ) (count n root : ℕ) (RD R : List ℕ) (W : ℕ → ℕ) (hn : n ≤ gone) (G : Gathered nx count head (Live n RD) R n W) where
  module _ (N : (y : ℕ) → 0 < y → y < count → ParentMarked root y (W y) (f y)) where
    marks : (y : ℕ) → 0 < y → y < count → (W y ≡ gone) ⊎ (W y ≡ f y)
    marks y a b = ⊎_elim (λ (g : W y ≡ gone). inl g) (λ (q : (W y ≡ f y) × ((0 < W y) ⊎ (y ≡ root))). inr q.0) (N y a b)

    pub kids_mark : (y : ℕ) → Live count R y → W y ≡ f y
    kids_mark y al = ⊎_elim (λ (g : W y ≡ gone). absurd (al.2 ((G.removed y).1 g))) (λ (q : W y ≡ f y). q) (marks y al.0 al.1)

    pub kids_lists : (p : ℕ) → Live n RD p → Holds nx (head p) (λ y. Live count R y × (f y ≡ p))
    kids_lists p al = gathered nx count head (Live n RD) R n W hn G f marks p al.0 al.1 al

    pub kids_parents : (y : ℕ) → Live count R y → (y ≡ root → ⊥) → Live n RD (f y)
    kids_parents y al nr =
        ⊎_elim (λ (g : W y ≡ gone). absurd (al.2 ((G.removed y).1 g)))
        (λ (q : (W y ≡ f y) × ((0 < W y) ⊎ (y ≡ root))).
        ⊎_elim
        (λ (p : 0 < W y).
        ⊎_elim (λ (z : W y ≡ 0). absurd (omega arith))
        (⊎_elim (λ (g : W y ≡ gone). absurd (al.2 ((G.removed y).1 g)))
        (λ (k : (0 < W y) × (W y < n) × Live n RD (W y)). subst (λ z. Live n RD z) q.0 k.2))
        (G.only y))
        (λ (e : y ≡ root). absurd (nr e))
        q.1)
        (N y al.0 al.1)

  -- the reverse: right lists and live parents leave no other marks
  pub kids_named : ((p : ℕ) → Live n RD p → Holds nx (head p) (λ y. Live count R y × (f y ≡ p)))
      → ((y : ℕ) → Live count R y → (y ≡ root → ⊥) → Live n RD (f y))
      → ((y : ℕ) → 0 < y → y ≡ root → f y ≡ 0) → (y : ℕ) → 0 < y → y < count → ParentMarked root y (W y) (f y)
  kids_named lists parents none y a b =
      ⊎_elim (λ (m : y ∈ R). inl ((G.removed y).0 m))
      (λ (m : y ∈ R → ⊥).
      ⊎_elim
      (λ (e : y ≡ root). inr (top e m, inr e))
      (λ (ne : y ≢ root).
      let k : Live n RD (f y) = parents y (a, b, m) ne in
      let L = G.list (f y) k.0 k.1 k in
      let K = lists (f y) k in
      let e : K.0 ≡ L.0 = one_list nx (head (f y)) (head (f y)) K.0 L.0 refl K.1 L.1 in
      let q : W y ≡ f y = (L.2 y).0 (subst (λ xs. y ∈ xs) e ((K.2 y).1 ((a, b, m), refl))) in
      inr (q, inl (let z : 0 < f y = k.0 in omega arith)))
      (same_or y root))
      (in_or y R)
    where
      top : y ≡ root → (y ∈ R → ⊥) → W y ≡ f y
      top e m =
          ⊎_elim (λ (z : W y ≡ 0). z ∙ sym (none y a e))
          (⊎_elim (λ (g : W y ≡ gone). absurd (m ((G.removed y).1 g)))
          (λ (k : (0 < W y) × (W y < n) × Live n RD (W y)).
          let L = G.list (W y) k.0 k.1 k.2 in
          let K = lists (W y) k.2 in
          let s : L.0 ≡ K.0 = one_list nx (head (W y)) (head (W y)) L.0 K.0 refl L.1 K.1 in
          sym ((K.2 y).0 (subst (λ xs. y ∈ xs) s ((L.2 y).1 refl))).1))
          (G.only y)
