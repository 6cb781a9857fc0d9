-- Which ways lead to the root, step by step: a directory's does exactly where its parent's does. So all of them can be found from the root down, in one pass.
use mathlib.Core.Path.{◌≡◌, refl, sym, ap, subst, subst⁻¹, ◌∙◌}
use mathlib.Core.List.{List, [], ◌∷◌}
use mathlib.Core.Bool.{Bool, true, false, cond}
use mathlib.Core.Logic.{◌⊎◌, inl, inr, ⊎_elim}
use Prim.Native.Nat.{ℕ, zero, suc, ◌≤◌, ◌<◌}
use native.Mathlib.Omega.{arith}
use lib.Dec.{eqb}
use lib.ListN.{length}
use Rattle.links.specs.Links.{◌∈◌, Distinct, Links}
use Rattle.links.specs.Change.{pick}
use Rattle.links.proofs.Laws.{distinct, at_most}
use Rattle.tree_table.specs.Chain.{member}
use Rattle.tree_marks.proofs.Walks.{le_or_lt}
use Rattle.salvage_tree.specs.Entries.{bound, goes, gone}
use Rattle.salvage_tree.proofs.Marked.{stops_zero, stops_over, stops_met}
use Rattle.salvage_way.specs.Way.{parent_of, way_from, way}
use Rattle.salvage_way.proofs.Climbs.{parent_root, way_stop, way_on}
use Rattle.salvage_way.proofs.Theorems.{way_links}

-- ---- a directory that one can go on to

untrue : {A : Type 0} → false ≡ true → A
untrue e = let z : ◌≡◌ {A = ℕ} 0 1 = ap (λ (b : Bool). cond b 1 0) e in absurd (omega (arith, z))

module _ (n : ℕ) (met : List ℕ) (x : ℕ) (e : goes n met x ≡ true) where
  some : 0 < x
  some = ⊎_elim (λ (h : 1 ≤ x). omega (arith, h)) (λ (h : x < 1). untrue (sym (stops_zero n met x (omega (arith, h))) ∙ e)) (le_or_lt 1 x)

  low : x < n
  low = ⊎_elim (λ (h : n ≤ x). untrue (sym (stops_over n met x some h) ∙ e)) (λ (h : x < n). h) (le_or_lt n x)

  fresh : member x met ≡ false
  fresh = go (member x met) refl
    where
      go : (b : Bool) → member x met ≡ b → member x met ≡ false
      go true q = untrue (sym (stops_met n met x some low q) ∙ e)
      go false q = q

-- ---- a way that leads to the root ends there

-- xs are the directories from x up to the end, below n, and none that was met
pub record Ended (t : List ℕ) (n : ℕ) (met : List ℕ) (x : ℕ) (xs : List ℕ) : Type 0 where
  pub links : Links (parent_of t) x xs
  pub inside : (y : ℕ) → y ∈ xs → (y < n) × (member y met ≡ false)

not_before : (x y : ℕ) (met : List ℕ) → member y (x ∷ met) ≡ false → member y met ≡ false
not_before x y met e = go (eqb x y) e
  where
    go : (b : Bool) → pick b true (member y met) ≡ false → member y met ≡ false
    go true q = untrue (sym q)
    go false q = q

module _ (t : List ℕ) (n : ℕ) (met : List ℕ) (x : ℕ) (e : goes n met x ≡ true) where
  one_more : (xs : List ℕ) → Ended t n (x ∷ met) (parent_of t x) xs → Ended t n met x (x ∷ xs)
  one_more xs r = record {
    links = (refl, some n met x e, r.links);
    inside = λ y. ⊎_elim
        (λ (q : y ≡ x). subst⁻¹ (λ (v : ℕ). (v < n) × (member v met ≡ false)) q (low n met x e, fresh n met x e))
        (λ i. ((r.inside y i).0, not_before x y met (r.inside y i).1));
  }

  at_root : (k : ℕ) → 1 ≡ x → Ended t n (x ∷ met) (parent_of t x) (way_from k t n (x ∷ met) (parent_of t x))
  at_root k p =
      let z : parent_of t x ≡ 0 = sym (parent_root t x (sym p)) in
      subst⁻¹ (Ended t n (x ∷ met) (parent_of t x)) (way_stop k t n (x ∷ met) (parent_of t x) (stops_zero n (x ∷ met) (parent_of t x) z))
      (record { links = z; inside = λ y i. absurd i })

ended : (k : ℕ) (t : List ℕ) (n : ℕ) (met : List ℕ) (x : ℕ) → 1 ∈ way_from k t n met x → Ended t n met x (way_from k t n met x)
ended zero t n met x h = absurd h
ended (suc k) t n met x h = go (goes n met x) refl (ended k t n (x ∷ met) (parent_of t x))
  where
    go : (b : Bool) → goes n met x ≡ b
        → (1 ∈ way_from k t n (x ∷ met) (parent_of t x) → Ended t n (x ∷ met) (parent_of t x) (way_from k t n (x ∷ met) (parent_of t x)))
        → Ended t n met x (way_from (suc k) t n met x)
    go false e f = absurd (subst (λ (xs : List ℕ). 1 ∈ xs) (way_stop (suc k) t n met x e) h)
    go true e f =
        let q = way_on k t n met x e in
        subst⁻¹ (Ended t n met x) q
        (one_more t n met x e (way_from k t n (x ∷ met) (parent_of t x))
        (⊎_elim (λ (p : 1 ≡ x). at_root t n met x e k p) f (subst (λ (xs : List ℕ). 1 ∈ xs) q h)))

-- such a list is the way
is_way : (t : List ℕ) (x : ℕ) (xs : List ℕ) → Ended t (bound 40 t) (gone 40 t) x xs → way t x ≡ xs
unfolding way
is_way t x xs r =
    let d : Distinct xs = distinct (parent_of t) x xs r.links in
    way_links (bound 40 t) t (bound 40 t) (gone 40 t) x xs r.links d (λ y i. (r.inside y i).0) (λ y i. (r.inside y i).1)
    (at_most (bound 40 t) xs d (λ y i. (r.inside y i).0))

ends : (t : List ℕ) (x : ℕ) → 1 ∈ way t x → Ended t (bound 40 t) (gone 40 t) x (way t x)
unfolding way
ends t x h = ended (bound 40 t) t (bound 40 t) (gone 40 t) x h

-- ---- a step

-- a directory that one can go on to, and whose parent's way leads to the root: its way is itself and then that way
pub way_below : (t : List ℕ) (x : ℕ) → goes (bound 40 t) (gone 40 t) x ≡ true → 1 ∈ way t (parent_of t x) → way t x ≡ x ∷ way t (parent_of t x)
way_below t x e h =
    let r = ends t (parent_of t x) h in
    is_way t x (x ∷ way t (parent_of t x)) (record {
      links = (refl, some (bound 40 t) (gone 40 t) x e, r.links);
      inside = λ y. ⊎_elim
          (λ (q : y ≡ x). subst⁻¹ (λ (v : ℕ). (v < bound 40 t) × (member v (gone 40 t) ≡ false)) q (low (bound 40 t) (gone 40 t) x e, fresh (bound 40 t) (gone 40 t) x e))
          (λ i. r.inside y i);
    })

-- and there is no other way to the root: one that leads there goes over the parent's, which does too
pub way_above : (t : List ℕ) (x : ℕ) → 1 ∈ way t x → way t x ≡ x ∷ way t (parent_of t x)
way_above t x h = go (way t x) h (ends t x h)
  where
    go : (xs : List ℕ) → 1 ∈ xs → Ended t (bound 40 t) (gone 40 t) x xs → xs ≡ x ∷ way t (parent_of t x)
    go [] m r = absurd m
    go (z ∷ zs) m r =
        let e : x ≡ z = r.links.0 in
        let on : way t (parent_of t x) ≡ zs = is_way t (parent_of t x) zs (record {
          links = subst⁻¹ (λ (v : ℕ). Links (parent_of t) (parent_of t v) zs) e r.links.2;
          inside = λ y i. r.inside y (inr i);
        }) in
        ap (λ (v : ℕ). v ∷ zs) (sym e) ∙ ap {B = List ℕ} (λ l. x ∷ l) (sym on)
