-- The bounds of the walks in specs/ never cut. In sound tables each list that is walked with a bound ends by itself, at 0, and holds what its rule says.
use mathlib.Core.Path.{◌≡◌, refl, sym, ap, ◌∙◌, subst, subst⁻¹}
use mathlib.Core.List.{List, [], ◌∷◌}
use mathlib.Core.Logic.{inl, inr, ⊎_elim, ◌≢◌, ◌↔◌}
use Prim.Native.Nat.{ℕ, ◌<◌}
use native.Mathlib.Omega.{arith}
use lib.ListN.{length}
use Rattle.links.specs.Links.{◌∈◌, Links, Holds}
use Rattle.links.specs.Change.{walk}
use Rattle.links.proofs.Laws.{one_list, walked, fewer}
use Rattle.links.proofs.Held.{same_or}
use Rattle.tree_table.specs.View.{View, parent, place, removed_of, bucket_of, children_of, LiveIn}
use Rattle.tree_sound.specs.Sound.{Table, Below, Dirs, up}

-- the list xs from h, by `next`, ends by itself and holds exactly the y with P y
pub record Uncut (next : ℕ → ℕ) (h : ℕ) (xs : List ℕ) (P : ℕ → Type 0) : Type 0 where
  pub links : Links next h xs
  pub holds : (y : ℕ) → y ∈ xs ↔ P y

module _ (v : View) (T : Table v) where
  -- a list of live entries is what a walk of as many steps as there are entries finds
  live_uncut : (next : ℕ → ℕ) (h : ℕ) (P : ℕ → Type 0) → Holds next h (λ y. LiveIn v y × P y) → Uncut next h (walk next v.count h) (λ y. LiveIn v y × P y)
  live_uncut next h P H =
      let q : length H.0 < v.count = fewer next v.count h H.0 T.count_one H.1 (λ y m. ((H.2 y).0 m).0.1) in
      let e : walk next v.count h ≡ H.0 = walked next v.count h H.0 H.1 (omega arith) in
      record {
        links = subst⁻¹ (λ (xs : List ℕ). Links next h xs) e H.1;
        holds = λ y. subst⁻¹ (λ (xs : List ℕ). y ∈ xs ↔ (LiveIn v y × P y)) e (H.2 y);
      }

  -- the removed entries
  pub removed_uncut : Links v.coll (v.coll 0) (removed_of v)
  removed_uncut = T.removed

  -- a bucket
  pub bucket_uncut : (b : ℕ) → b < v.buckets → Uncut v.coll (v.hash b) (bucket_of v b) (λ y. LiveIn v y × (place v (v.key y) ≡ b))
  bucket_uncut b h = live_uncut v.coll (v.hash b) (λ y. place v (v.key y) ≡ b) (T.bucket b h)

-- a directory's children in the table v, the directories' or the files'
pub children_uncut : (D v : View) (root p : ℕ) → Below D v root → LiveIn D p → Uncut v.next (v.head p) (children_of v p) (λ y. LiveIn v y × (up v y ≡ p))
children_uncut D v root p B l = live_uncut v B.table v.next (v.head p) (λ y. up v y ≡ p) (B.lists p l)

module _ (D : View) (S : Dirs D) where
  -- the directories above a live one are below count
  above_low : (y : ℕ) (xs : List ℕ) → LiveIn D y → Links (up D) y xs → (z : ℕ) → z ∈ xs → z < D.count
  above_low y [] ly l z x3 = elim x3 [ ]
  above_low y (a ∷ xs) ly l z (inl e) = let q : y ≡ a = l.0 in let b : y < D.count = ly.1 in subst (λ n. n < D.count) (q ∙ sym e) b
  above_low y (a ∷ xs) ly l z (inr m) =
      ⊎_elim
      (λ (e : a ≡ 1).
      let u : up D a ≡ 0 = ap (up D) e ∙ ap parent S.root_key in
      let n : xs ≡ [] = one_list (up D) (up D a) 0 xs [] u l.2 refl in
      absurd (subst (λ zs. z ∈ zs) n m))
      (λ (e : a ≢ 1). above_low (up D a) xs (S.below.parents a (subst (λ w. LiveIn D w) l.0 ly) e) l.2 z m)
      (same_or a 1)

  -- the way up is the list that a walk of as many steps as there are entries finds
  pub way_up : (y : ℕ) → LiveIn D y → (xs : List ℕ) → Links (up D) y xs → walk (up D) D.count y ≡ xs
  way_up y ly xs l =
      let q : length xs < D.count = fewer (up D) D.count y xs S.below.table.count_one l (above_low y xs ly l) in
      walked (up D) D.count y xs l (omega arith)

  -- the directories above a live one, by parents: the walk ends behind the root, and the root is in it
  pub above_uncut : (y : ℕ) → LiveIn D y → Links (up D) y (walk (up D) D.count y) × (1 ∈ walk (up D) D.count y)
  above_uncut y ly =
      let r = S.reach y ly in
      let e : walk (up D) D.count y ≡ r.0 = way_up y ly r.0 r.1 in
      (subst⁻¹ (λ (xs : List ℕ). Links (up D) y xs) e r.1, subst⁻¹ (λ (xs : List ℕ). 1 ∈ xs) e r.2)
