-- What the tests of the code tell of the faults, one lemma for each way out.
use mathlib.Core.Path.{◌≡◌, refl, sym, ap, subst⁻¹, ◌∙◌}
use mathlib.Core.List.{List}
use mathlib.Core.Bool.{Bool, true, false, not, ◌&&◌, ◌||◌}
use mathlib.Core.Logic.{⊎_elim}
use Prim.Native.Nat.{ℕ, zero, suc, ◌+◌, ◌<◌}
use native.Mathlib.Omega.{arith}
use lib.Dec.{eqb, ltb}
use lib.ListN.{length, get_or}
use borrow.Author.Tests.{eqb-true, eq-eqb, ne_eqb, ltb-true, lt-ltb}
use Rattle.fat_node.specs.Entry.{Bytes, top, u_at, v_at}
use Rattle.std.specs.Prelude.{Option, Some, None, MatchOption}
use Rattle.fat_node.specs.Node.{HeadForm, prev_at, next_at}
use Rattle.fat_fault.specs.Fault.{is_node, answered, head_fits, loose, hop, ringed, untied}
use Rattle.fat_fault.specs.Inner.Ring.{Ring}
use Rattle.fat_fault.specs.Inner.Marks.{round, Marked, Names, Hops, Coloured}
use Rattle.fat_node.proofs.Faults.{yes_and, tell}
use Rattle.fat_fault.proofs.Ways.{named_hop, hop_named, ringed_ring, ring_ringed, ring_is_node}

-- ---- links

module _ (n : ℕ) (t : Bytes) where
  not_node : (w : List ℕ) → Marked n t w → (j : ℕ) → get_or w j 0 ≡ 0 → is_node n t j ≡ false
  not_node w m j e = ⊎_elim (λ q. let z : ⊥ = omega (arith, m.node j q, e) in absurd z) (λ q. q) (tell (is_node n t j))

  one_node : (w : List ℕ) → Marked n t w → (j : ℕ) → (get_or w j 0 ≡ 0 → ⊥) → is_node n t j ≡ true
  one_node w m j h = m.mark j (omega (arith, h))

  -- an index that names a place of the marks names a node
  pub answered_some : (w : List ℕ) → Marked n t w → (link : ℕ → ℕ) (i j p q : ℕ) → i ≡ j + 1 → 0 < get_or w j 0 → q ≡ link j → eqb q p ≡ answered n t link i p
  unfolding answered
  answered_some w m link zero j p q e h f = absurd (omega (arith, e))
  answered_some w m link (suc k) j p q e h f =
      let s : k ≡ j = omega (arith, e) in
      ap (λ (x : ℕ). eqb x p) (f ∙ ap link (sym s)) ∙ sym (ap (λ (x : Bool). x && eqb (link k) p) (ap (is_node n t) s ∙ m.mark j h))

  -- and any other is 0 or names none
  pub answered_none : (w : List ℕ) → Marked n t w → (link : ℕ → ℕ) (i p : ℕ) → ((j : ℕ) → i ≡ j + 1 → get_or w j 0 ≡ 0) → eqb i 0 ≡ answered n t link i p
  unfolding answered
  answered_none w m link zero p h = refl
  answered_none w m link (suc k) p h = ne_eqb (suc k) 0 (λ e. omega (arith, e)) ∙ sym (ap (λ (x : Bool). x && eqb (link k) p) (not_node w m k (h k (omega arith))))

  -- so the test of what an index names
  pub answered_by : (w : List ℕ) → Marked n t w → (link : ℕ → ℕ) (i p : ℕ) (o : Option ℕ) (r : Bool) → Names w i o → {P : ℕ → Type 0} → MatchOption o (r ≡ eqb i 0) P
      → ((j : ℕ) → P j → r ≡ eqb (link j) p) → r ≡ answered n t link i p
  answered_by w m link i p None r s e f = e ∙ answered_none w m link i p s
  answered_by w m link i p (Some j) r s e f = f j e ∙ answered_some w m link i j p (link j) s.0 s.2 refl

  pub head_none : (HeadForm t → ⊥) → false ≡ head_fits n t
  unfolding head_fits
  head_none h =
      ⊎_elim
      (λ e. ⊎_elim
      (λ f. absurd (h (eqb-true (u_at t 0) 0 e, ltb-true (v_at t 0) top f)))
      (λ f. sym (ap (λ (x : Bool). x && (ltb (v_at t 0) top && answered n t (prev_at t) (v_at t 0) 0)) e ∙ ap (λ (x : Bool). x && answered n t (prev_at t) (v_at t 0) 0) f))
      (tell (ltb (v_at t 0) top)))
      (λ e. sym (ap (λ (x : Bool). x && (ltb (v_at t 0) top && answered n t (prev_at t) (v_at t 0) 0)) e))
      (tell (eqb (u_at t 0) 0))

  pub head_some : (h : ℕ) (r : Bool) → HeadForm t → h ≡ v_at t 0 → r ≡ answered n t (prev_at t) h 0 → r ≡ head_fits n t
  unfolding head_fits
  head_some h r f e a =
      a ∙ ap (λ (x : ℕ). answered n t (prev_at t) x 0) e
      ∙ sym (ap (λ (x : Bool). x && (ltb (v_at t 0) top && answered n t (prev_at t) (v_at t 0) 0)) (eq-eqb (u_at t 0) 0 f.0)
      ∙ ap (λ (x : Bool). x && answered n t (prev_at t) (v_at t 0) 0) (lt-ltb (v_at t 0) top f.1))

-- marks that are as many as the blocks
pub marked_long : {n : ℕ} {t : Bytes} {w : List ℕ} → Marked n t w → Marked (length w) t w
marked_long {n} {t} {w} m = subst⁻¹ (λ (k : ℕ). Marked k t w) m.long m

-- one link, and then the other
module _ (n : ℕ) (t : Bytes) (b : ℕ) where
  suc_b : suc b ≡ b + 1
  suc_b = omega arith

  pub loose_next : (i : ℕ) (r : Bool) → i ≡ next_at t b → r ≡ answered n t (prev_at t) i (b + 1) → r ≡ false → not r ≡ loose n t b
  unfolding loose
  loose_next i r e a f = rw (suc_b, ← e, ← a, f)

  pub loose_prev : (i k : ℕ) (r s : Bool) → i ≡ next_at t b → r ≡ answered n t (prev_at t) i (b + 1) → r ≡ true → k ≡ prev_at t b → s ≡ answered n t (next_at t) k (b + 1) → not s ≡ loose n t b
  unfolding loose
  loose_prev i k r s e a f g d = rw (suc_b, ← e, ← a, f, ← g, ← d)

-- ---- hops

-- what the marks tell of the index that next has
pub hop_names : (n : ℕ) (t : Bytes) (w : List ℕ) (b i : ℕ) (r : Option ℕ) → Marked n t w → i ≡ next_at t b → Names w i r → Hops n t b r
hop_names n t w b i (Some j) m e h = named_hop n t b j (sym e ∙ h.0 ∙ omega arith) (m.mark j h.2)
hop_names n t w b i None m e h = go (hop n t b) refl
  where
    go : (k : ℕ) → hop n t b ≡ k → hop n t b ≡ 0
    go zero q = q
    go (suc j) q = let o = hop_named n t b j q in let z : ⊥ = omega (arith, m.node j o.1, h j (e ∙ o.0 ∙ omega arith)) in absurd z

-- ---- the lowest

module _ (n : ℕ) (t : Bytes) (w : List ℕ) (b : ℕ) (c : Coloured n t (b + 1) w) where
  pub untied_none : get_or w b 0 ≡ 0 → false ≡ untied n t b
  unfolding untied
  untied_none e = sym (ap (λ (x : Bool). x && (loose n t b || ringed n t b)) (not_node n t w c.marked b e))

  or_right : (x y : Bool) → y ≡ true → (x || y) ≡ true
  or_right true y e = refl
  or_right false y e = e

  or_left : (x y : Bool) → y ≡ false → (x || y) ≡ x
  or_left true y e = refl
  or_left false y e = e

  pub untied_ring : get_or w b 0 ≡ round → true ≡ untied n t b
  unfolding untied
  untied_ring e = sym (yes_and (one_node n t w c.marked b (λ q. omega (arith, e, q))) (or_right (loose n t b) (ringed n t b) (ring_ringed n t b (c.rings b e))))

  pub untied_loose : (r : Bool) → (get_or w b 0 ≡ 0 → ⊥) → (get_or w b 0 ≡ round → ⊥) → r ≡ loose n t b → r ≡ untied n t b
  unfolding untied
  untied_loose r h g e =
      let f : ringed n t b ≡ false = ⊎_elim (λ q. absurd (g (c.ringed b (c.done b (omega arith) (omega (arith, h))) (ringed_ring n t b q)))) (λ q. q) (tell (ringed n t b)) in
      e ∙ sym (ap (λ (x : Bool). x && (loose n t b || ringed n t b)) (one_node n t w c.marked b h) ∙ or_left (loose n t b) (ringed n t b) f)

-- one comes back to it
pub untied_round : (n : ℕ) (t : Bytes) (b : ℕ) → Ring (hop n t) b → true ≡ untied n t b
unfolding untied
untied_round n t b g = sym (yes_and (ring_is_node n t g) (either (loose n t b) (ringed n t b) (ring_ringed n t b g)))
  where
    either : (x y : Bool) → y ≡ true → (x || y) ≡ true
    either true y e = refl
    either false y e = e
