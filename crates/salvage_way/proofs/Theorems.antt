-- What a way up is worth: where the directories' count, removed list and keys are those of sound tables, it is the way that these have, which leads to the root.
use mathlib.Core.Path.{◌≡◌, refl, sym, ap, subst, subst⁻¹, ◌∙◌}
use mathlib.Core.List.{List, [], ◌∷◌, ◌++◌}
use mathlib.Core.Bool.{Bool, true, false}
use mathlib.Core.Logic.{inl, inr, ⊎_elim}
use Prim.Native.Nat.{ℕ, zero, suc, ◌/◌, ◌≤◌, ◌<◌}
use native.Mathlib.Omega.{arith}
use lib.ListN.{length}
use borrow.Author.Tests.{ne_eqb}
use Rattle.order.specs.Gate.{cleared}
use Rattle.order.specs.Beside.{Beside, beside, within}
use Rattle.order.proofs.One.{one}
use Rattle.links.specs.Links.{◌∈◌, Distinct, Links}
use Rattle.links.specs.Change.{pick}
use Rattle.links.proofs.Laws.{distinct, at_most}
use Rattle.links.proofs.Held.{same_or}
use Rattle.tree_table.specs.Field.{field}
use Rattle.tree_table.specs.View.{View, LiveIn, removed_of, parent as parent_in}
use Rattle.tree_table.specs.Chain.{member}
use Rattle.tree_sound.specs.Sound.{Dirs, up}
use Rattle.salvage_tree.specs.Entries.{bound, gone}
use Rattle.salvage_tree.specs.Calls.{Entered, entered_gives, entered_gate}
use Rattle.salvage_tree.proofs.Theorems.{SameList, bounded, same_gone, in_not}
use Rattle.salvage_tree.proofs.Marked.{stops_zero, goes_on}
use Rattle.salvage_way.specs.Way.{parent_of, way_from, way}
use Rattle.salvage_way.specs.Calls.{way_rows, way_done, WayPromise}
use Rattle.salvage_way.proofs.Climbs.{parent_root, way_stop, way_on}

-- a list by parents that ends, lies below n and was not met is the way
pub way_links : (k : ℕ) (t : List ℕ) (n : ℕ) (met : List ℕ) (x : ℕ) (xs : List ℕ) → Links (parent_of t) x xs → Distinct xs → ((y : ℕ) → y ∈ xs → y < n)
    → ((y : ℕ) → y ∈ xs → member y met ≡ false) → length xs ≤ k → way_from k t n met x ≡ xs
way_links k t n met x [] l d b f h = way_stop k t n met x (stops_zero n met x l)
way_links zero t n met x (z ∷ zs) l d b f h = absurd (omega (arith, h))
way_links (suc k) t n met x (z ∷ zs) l d b f h =
    let e : x ≡ z = l.0 in
    let here : member x met ≡ false = subst⁻¹ (λ (v : ℕ). member v met ≡ false) e (f z (inl refl)) in
    let below : x < n = subst⁻¹ (λ (v : ℕ). v < n) e (b z (inl refl)) in
    let on = way_links k t n (x ∷ met) (parent_of t x) zs (subst⁻¹ (λ (v : ℕ). Links (parent_of t) (parent_of t v) zs) e l.2) d.1 (λ v i. b v (inr i))
    (λ v i. ap (λ (c : Bool). pick c true (member v met)) (ne_eqb x v (λ q. d.0 (subst⁻¹ (λ (u : ℕ). u ∈ zs) (sym e ∙ q) i))) ∙ f v (inr i))
    (omega (arith, h)) in
    way_on k t n met x (goes_on n met x (omega (arith, l.1, e)) below here) ∙ ap {B = List ℕ} (λ r. x ∷ r) on ∙ ap (λ (v : ℕ). v ∷ zs) e

step : (t : List ℕ) (y : ℕ) → (y ≡ 1 → ⊥) → parent_of t y ≡ field 40 t y 1
unfolding parent_of
step t y e = rw (ne_eqb y 1 e)

-- t names the parents of sound directories D
pub record SameParents (t : List ℕ) (D : View) : Type 0 where
  pub named : (y : ℕ) → LiveIn D y → (y ≡ 1 → ⊥) → field 40 t y 1 ≡ up D y

module _ (t t' : List ℕ) (D : View) (s : Dirs D) (a : SameList 40 t t' D) (p : SameParents t D) where
  root_up : up D 1 ≡ 0
  root_up = ap parent_in s.root_key

  parent : (y : ℕ) → LiveIn D y → parent_of t y ≡ up D y
  parent y l = ⊎_elim
      (λ e. sym (parent_root t y e) ∙ sym root_up ∙ ap (up D) (sym e))
      (λ e. step t y e ∙ p.named y l e)
      (same_or y 1)

  -- the directories on the way are live, and named the same
  live_links : (y : ℕ) (xs : List ℕ) → LiveIn D y → Links (up D) y xs → Links (parent_of t) y xs × ((z : ℕ) → z ∈ xs → LiveIn D z)
  live_links y [] l k = (k, (λ z h. absurd h))
  live_links y (x ∷ []) l k =
      let m : LiveIn D x = subst (LiveIn D) k.0 l in
      ((k.0, k.1, parent x m ∙ k.2), (λ z h. ⊎_elim (λ e. subst⁻¹ (LiveIn D) e m) (λ e. absurd e) h))
  live_links y (x ∷ x' ∷ xs) l k =
      let m : LiveIn D x = subst (LiveIn D) k.0 l in
      let n : x ≡ 1 → ⊥ = λ e. omega (arith, k.2.0, k.2.1, ap (up D) e, root_up) in
      let r = live_links (up D x) (x' ∷ xs) (s.below.parents x m n) k.2 in
      ((k.0, k.1, subst⁻¹ (λ (v : ℕ). Links (parent_of t) v (x' ∷ xs)) (parent x m) r.0), (λ z h. ⊎_elim (λ e. subst⁻¹ (LiveIn D) e m) (λ e. r.1 z e) h))

  pub live_above : (y : ℕ) (xs : List ℕ) → LiveIn D y → Links (up D) y xs → (z : ℕ) → z ∈ xs → LiveIn D z
  live_above y xs l k = (live_links y xs l k).1

  -- the way up from a live directory is the way of the sound tables
  pub way_exact : (y : ℕ) → LiveIn D y → (xs : List ℕ) → Links (up D) y xs → way t y ≡ xs
  unfolding way
  way_exact y l xs k =
      let r = live_links y xs l k in
      let b : bound 40 t ≡ D.count = bounded 40 t t' D s.below.table a in
      let d : Distinct xs = distinct (up D) y xs k in
      ap (λ (n : ℕ). way_from n t n (gone 40 t) y) b
      ∙ way_links D.count t D.count (gone 40 t) y xs r.0 d (λ z h. (r.1 z h).1)
      (λ z h. same_gone 40 t t' D s.below.table a z ∙ in_not z (removed_of D) (r.1 z h).2)
      (at_most D.count xs d (λ z h. (r.1 z h).1))

-- ---- one answer

pub one_way : (t work : List ℕ) (x : ℕ) (list : List ℕ) (o o' : Beside Entered) → WayPromise t work x list o → WayPromise t work x list o' → o ≡ o'
one_way t work x list o o' p q =
    one (entered_gate (λ a v. beside (entered_gives a 0 list) v) 40 t work ++ within (cleared (length t / 40) work) (way_rows t x list))
    (beside (way_done t x list) (cleared (length t / 40) work)) o o' p q
