-- The laws of ways and rings: what goes round, and that a way without repeats is short.
use mathlib.Core.Path.{◌≡◌, refl, sym, ap, subst, ◌∙◌}
use mathlib.Core.List.{List, [], ◌∷◌}
use mathlib.Core.Bool.{Bool, true, false, cond, ◌||◌}
use mathlib.Core.Logic.{◌⊎◌, inl, inr, ⊎_elim}
use Prim.Native.Nat.{ℕ, zero, suc, ◌≤◌}
use native.Mathlib.Omega.{arith}
use lib.Dec.{eqb}
use lib.ListN.{length}
use borrow.Author.Tests.{eqb-true, eq-eqb}
use Rattle.links.specs.Links.{◌∈◌, Distinct}
use Rattle.links.proofs.Laws.{at_most}
use Rattle.links.proofs.Held.{same_or}
use Rattle.fat_node.specs.Entry.{Bytes}
use Rattle.fat_node.specs.Node.{next_at}
use Rattle.fat_node.proofs.Cases.{untrue}
use Rattle.fat_fault.specs.Fault.{is_node, named, hop, comes, ringed}
use Rattle.fat_fault.specs.Inner.Ring.{Way, Ring}
use Rattle.fat_fault.specs.Inner.Ring.Way.{here, step}
use Rattle.fat_fault.proofs.Standing.{node_below}

same_index : {a m k : ℕ} → a ≡ suc m → a ≡ suc k → m ≡ k
same_index e f = omega (arith, e, f)

module _ (next : ℕ → ℕ) where
  pub way_on : {x i y : ℕ} → Way next x i → next x ≡ suc y → Way next y i
  way_on here e = step e here
  way_on (step q w) e = step q (way_on w e)

  -- a way that leads back
  pub way_ring : {z j : ℕ} → Way next z j → next z ≡ suc j → Ring next j
  way_ring {z} here e = record { after = z; on = e; back = here }
  way_ring (step {m = m} q w) e = record { after = m; on = q; back = way_on w e }

  pub ring_next : {y m : ℕ} → Ring next y → next y ≡ suc m → Ring next m
  ring_next {y} r e = way_ring (subst (Way next y) (same_index r.on e) r.back) e

  -- what a ring leads to is in a ring
  pub ring_way : {x i : ℕ} → Ring next i → Way next x i → Ring next x
  ring_way r here = r
  ring_way r (step q w) = ring_way (ring_next r q) w

  front : {x y m : ℕ} → Ring next x → Way next x y → next y ≡ suc m → Way next x m
  front {x} r here e = subst (Way next x) (same_index r.on e) r.back
  front {x} r (step q w) e = subst (Way next x) (same_index q e) w

  -- what is passed on the way to a block of a ring, and is led to from there, leads back
  round : {i y x : ℕ} → Ring next x → Way next i y → Way next x y → Way next x i
  round r here v = v
  round r (step q w) v = round r w (front r v q)

  pub ring_back : {x i : ℕ} → Ring next x → Way next i x → Way next x i
  ring_back r w = round r w here

  way_last : {x i : ℕ} → Way next x i → (i ≡ x) ⊎ ((z : ℕ) × (next z ≡ suc x) × Way next z i)
  way_last here = inl refl
  way_last (step {i} {m} q w) = ⊎_elim
      (λ e. inr (i, q ∙ ap suc e, here))
      (λ o. inr (o.0, o.1, step q o.2))
      (way_last w)

  -- what is before it in a ring
  pub ring_last : {x : ℕ} → Ring next x → (z : ℕ) × (next z ≡ suc x) × Ring next z
  ring_last {x} r = ⊎_elim
      (λ e. (x, r.on ∙ ap suc e, r))
      (λ o. (o.0, o.1, ring_way r (step r.on o.2)))
      (way_last r.back)

  -- what is closed holds all along
  pub way_in : (P : ℕ → Type 0) → ((a b : ℕ) → P a → next a ≡ suc b → P b) → {x i : ℕ} → P i → Way next x i → P x
  way_in P c p here = p
  way_in P c p (step {i} {m} q w) = way_in P c (c i m p q) w

  -- ways with the blocks that are passed
  pub data Trail (x : ℕ) : ℕ → List ℕ → Type 0 where
    end : Trail x x (x ∷ [])
    on : {i m : ℕ} {l : List ℕ} → next i ≡ suc m → Trail x m l → Trail x i (i ∷ l)

  pub trail_to : {x i : ℕ} {l : List ℕ} → Trail x i l → (y : ℕ) → y ∈ l → Way next y i
  trail_to {x = x} end y (inr k) = elim k [ ]
  trail_to {x} end y (inl e) = subst (λ (z : ℕ). Way next z x) (sym e) here
  trail_to (on {i} q t) y (inl e) = subst (λ (z : ℕ). Way next z i) (sym e) here
  trail_to (on q t) y (inr k) = step q (trail_to t y k)

  -- from a block of a trail on
  trail_from : {x i : ℕ} {l : List ℕ} → Trail x i l → Distinct l → (y : ℕ) → y ∈ l → (k : List ℕ) × Trail x y k × Distinct k × ((z : ℕ) → z ∈ k → z ∈ l)
  trail_from {x = x} end d y (inr k) = elim k [ ]
  trail_from {x} end d y (inl e) = (x ∷ [], subst (λ (z : ℕ). Trail x z (x ∷ [])) (sym e) end, d, λ z m. m)
  trail_from {x} (on {i} {m} {l} q t) d y (inl e) = (i ∷ l, subst (λ (z : ℕ). Trail x z (i ∷ l)) (sym e) (on q t), d, λ z m. m)
  trail_from (on q t) d y (inr k) = let w = trail_from t d.1 y k in (w.0, w.1, w.2, λ z m. inr (w.3 z m))

pub in_or_not : (y : ℕ) (l : List ℕ) → (y ∈ l) ⊎ (y ∈ l → ⊥)
in_or_not y [] = inr (λ m. m)
in_or_not y (a ∷ l) = ⊎_elim
    (λ e. inl (inl e))
    (λ h. ⊎_elim (λ m. inl (inr m)) (λ g. inr (λ o. ⊎_elim (λ e. h e) (λ m. g m) o)) (in_or_not y l))
    (same_or y a)

module _ (next : ℕ → ℕ) (P : ℕ → Type 0) (c : (a b : ℕ) → P a → next a ≡ suc b → P b) where
  -- a way without repeats
  pub record Short (x i : ℕ) : Type 0 where
    pub list : List ℕ
    pub trail : Trail next x i list
    pub once : Distinct list
    pub all : (z : ℕ) → z ∈ list → P z

  shorter : {x i m : ℕ} → P i → next i ≡ suc m → Short x m → Short x i
  shorter {x} {i} p q s = ⊎_elim
      (λ k. let w = trail_from next s.trail s.once i k in record { list = w.0; trail = w.1; once = w.2; all = λ z o. s.all z (w.3 z o) })
      (λ k. record { list = i ∷ s.list; trail = on q s.trail; once = (k, s.once); all = λ z o. ⊎_elim (λ e. subst P (sym e) p) (λ o. s.all z o) o })
      (in_or_not i s.list)

  pub short : {x i : ℕ} → P i → Way next x i → Short x i
  short {x} p here = record { list = x ∷ []; trail = end; once = (λ m. m, tt); all = λ z o. ⊎_elim (λ e. subst P (sym e) p) (λ (k : ⊥). absurd k) o }
  short p (step {i} {m} q w) = shorter p q (short (c i m p q) w)

-- ---- rings of the table

module _ (n : ℕ) (t : Bytes) where
  named_some : (i m : ℕ) → named n t i ≡ suc m → (i ≡ suc m) × (is_node n t m ≡ true)
  unfolding named
  named_some zero m e = absurd (omega arith)
  named_some (suc j) m e = pick (is_node n t j) refl e
    where
      pick : (x : Bool) → is_node n t j ≡ x → cond x (suc j) zero ≡ suc m → (suc j ≡ suc m) × (is_node n t m ≡ true)
      pick true q e = (e, ap (is_node n t) (omega (arith, e)) ∙ q)
      pick false q e = absurd (omega (arith, e))

  some_named : (m : ℕ) → is_node n t m ≡ true → named n t (suc m) ≡ suc m
  unfolding named
  some_named m e = rw e

  pub hop_named : (b m : ℕ) → hop n t b ≡ suc m → (next_at t b ≡ suc m) × (is_node n t m ≡ true)
  unfolding hop
  hop_named b m e = named_some (next_at t b) m e

  pub named_hop : (b m : ℕ) → next_at t b ≡ suc m → is_node n t m ≡ true → hop n t b ≡ suc m
  unfolding hop
  named_hop b m e q = ap (named n t) e ∙ some_named m q

  or_either : (a b : Bool) → (a || b) ≡ true → (a ≡ true) ⊎ (b ≡ true)
  or_either true b e = inl refl
  or_either false b e = inr e

  comes_way : (k i b : ℕ) → comes n t k i b ≡ true → (m : ℕ) × (i ≡ suc m) × Way (hop n t) b m
  comes_way zero i b e = untrue e
  comes_way (suc k) zero b e = untrue e
  comes_way (suc k) (suc j) b e = ⊎_elim
      (λ q. (j, refl, subst (Way (hop n t) b) (sym (eqb-true j b q)) here))
      (λ q. let w = comes_way k (hop n t j) b q in (j, refl, step w.1 w.2))
      (or_either (eqb j b) (comes n t k (hop n t j) b) e)

  or_yes : (a b : Bool) → b ≡ true → (a || b) ≡ true
  or_yes true b e = refl
  or_yes false b e = e

  trail_comes : (k : ℕ) {x i : ℕ} {l : List ℕ} → Trail (hop n t) x i l → length l ≤ k → comes n t k (suc i) x ≡ true
  trail_comes zero end h = absurd (omega arith)
  trail_comes zero (on q w) h = absurd (omega arith)
  trail_comes (suc k) {x} end h = ap (λ (y : Bool). y || comes n t k (hop n t x) x) (eq-eqb x x refl)
  trail_comes (suc k) {x} (on {i} {m} q w) h =
      or_yes (eqb i x) (comes n t k (hop n t i) x) (ap (λ (y : ℕ). comes n t k y x) q ∙ trail_comes k w (omega arith))

  -- the test of a ring tells it
  pub ringed_ring : (b : ℕ) → ringed n t b ≡ true → Ring (hop n t) b
  unfolding ringed
  ringed_ring b e = let w = comes_way n (hop n t b) b e in record { after = w.0; on = w.1; back = w.2 }

  pub ring_ringed : (b : ℕ) → Ring (hop n t) b → ringed n t b ≡ true
  unfolding ringed
  ring_ringed b r =
      let m = r.after in
      let s = short (hop n t) (λ (x : ℕ). is_node n t x ≡ true) (λ a b p q. (hop_named a b q).1) (hop_named b m r.on).1 r.back in
      ap (λ (i : ℕ). comes n t n i b) r.on ∙ trail_comes n s.trail (at_most n s.list s.once (λ y o. node_below n t y (s.all y o)))

  pub hop_most : (b : ℕ) → hop n t b ≤ n
  hop_most b = go (hop n t b) refl
    where
      go : (i : ℕ) → hop n t b ≡ i → hop n t b ≤ n
      go zero e = omega (arith, e)
      go (suc m) e = omega (arith, e, node_below n t m (hop_named b m e).1)

  -- what lies in a ring is a node
  pub ring_is_node : {x : ℕ} → Ring (hop n t) x → is_node n t x ≡ true
  ring_is_node {x} r = let o = ring_last (hop n t) r in (hop_named o.0 x o.1).1
