-- A table has no fault exactly when it is sound.
use mathlib.Core.Path.{◌≡◌, refl, sym, ap, subst, ◌∙◌}
use mathlib.Core.List.{List, ◌∷◌}
use mathlib.Core.Bool.{Bool, true, false, not, ◌&&◌, ◌||◌}
use mathlib.Core.Logic.{◌⊎◌, inl, inr, ⊎_elim, ◌↔◌, ◌≢◌}
use Prim.Native.Nat.{ℕ, zero, suc, ◌+◌, ◌*◌, ◌<◌, ◌≤◌}
use native.Mathlib.Omega.{arith}
use lib.Dec.{eqb, ltb}
use lib.ListN.{length, get_or}
use borrow.Author.Tests.{eqb-true, eq-eqb, ltb-true, lt-ltb}
use Rattle.words.proofs.Laws as words
use Rattle.links.specs.Links.{◌∈◌, Distinct}
use Rattle.links.proofs.Laws.{at_most}
use Rattle.fat_node.specs.Entry.{Bytes, top, u_at}
use Rattle.fat_node.specs.Node.{Run, prev_at, next_at}
use Rattle.fat_node.proofs.Cases.{untrue}
use Rattle.fat_table.specs.Sound.{IsNode, Path, Sound}
use Rattle.fat_table.specs.Sound.Path.{here, on}
use Rattle.fat_table.specs.Chain.{head_at}
use Rattle.fat_table.specs.Counts.{nodes}
use Rattle.fat_table.proofs.Chains as chains
use Rattle.fat_table.proofs.Chains.{In}
use Rattle.fat_table.proofs.Sounds.{Tied, tied_holds, holds_sound, node_holds, in_node}
use Rattle.order.specs.declared.Fault.{Fault}
use Rattle.order.specs.Answer.{fault, unbroken}
use Rattle.fat_node.specs.Fault.{when}
use Rattle.std.specs.Prelude.{Result, Ok, Err, IsErr}
use Rattle.fat_fault.specs.Inner.Marks.{Finds}
use Rattle.fat_fault.specs.Fault.{walk_fault, is_node, answered, head_fits, loose, hop, ringed, untied, lowest, later_fault, fault_of}
use Rattle.fat_fault.specs.Inner.Ring.{Ring}
use Rattle.fat_node.proofs.Faults.{when_yes, when_no, not_given, or_no, no_or, not_no, and_yes, yes_and, tell}
use Rattle.fat_fault.proofs.Rules.{first_none, then_second}
use Rattle.fat_fault.proofs.Standing.{Stand, clear_stand, covered_clear, starts_in, node_below, is_node_lem, node_is}
use Rattle.fat_fault.proofs.Ways.{Trail, hop_named, named_hop, ringed_ring, ring_ringed, in_or_not, trail_to, way_ring, ring_last}

-- ---- the tests

module _ (n : ℕ) (t : Bytes) (link : ℕ → ℕ) where
  pub answers : (i p : ℕ) → answered n t link i p ≡ true → (j : ℕ) → i ≡ suc j → (is_node n t j ≡ true) × (link j ≡ p)
  unfolding answered
  answers zero p e j q = absurd (omega (arith, q))
  answers (suc k) p e j q =
      let w = and_yes (is_node n t k) (eqb (link k) p) e in
      let s : k ≡ j = omega (arith, q) in
      (ap (is_node n t) (sym s) ∙ w.0, ap link (sym s) ∙ eqb-true (link k) p w.1)

  pub answer : (i p : ℕ) → ((j : ℕ) → i ≡ suc j → (is_node n t j ≡ true) × (link j ≡ p)) → answered n t link i p ≡ true
  unfolding answered
  answer zero p f = refl
  answer (suc j) p f = let w = f j refl in yes_and w.0 (eq-eqb (link j) p w.1)

module _ (n : ℕ) (t : Bytes) where
  lowest_none : (k b : ℕ) → (lowest n t k b).rule ≡ 0 → (x : ℕ) → b ≤ x → x < b + k → untied n t x ≡ false
  lowest_none zero b e x h l = absurd (omega arith)
  lowest_none (suc k) b e x h l =
      let w = not_given _ _ _ _ e in
      ⊎_elim
      (λ q. ap (untied n t) q ∙ w.0)
      (λ q. lowest_none k (b + 1) w.1 x (omega (arith, q)) (omega arith))
      (same x b)
    where
      same : (x y : ℕ) → (x ≡ y) ⊎ (x ≢ y)
      same x y = ⊎_elim (λ e. inl (eqb-true x y e)) (λ e. inr (λ q. untrue (sym e ∙ eq-eqb x y q))) (tell (eqb x y))

  none_lowest : (k b : ℕ) → ((x : ℕ) → untied n t x ≡ false) → lowest n t k b ≡ unbroken
  none_lowest zero b f = refl
  none_lowest (suc k) b f = when_no _ _ _ (f b) ∙ none_lowest k (b + 1) f

-- ---- no fault: sound

-- what holds of a node that is tied
pub record Ties (n : ℕ) (t : Bytes) : Type 0 where
  pub next : (b j : ℕ) → is_node n t b ≡ true → next_at t b ≡ suc j → (is_node n t j ≡ true) × (prev_at t j ≡ suc b)
  pub prev : (b j : ℕ) → is_node n t b ≡ true → prev_at t b ≡ suc j → (is_node n t j ≡ true) × (next_at t j ≡ suc b)
  pub lone : (b : ℕ) → is_node n t b ≡ true → Ring (hop n t) b → ⊥

untied_parts : (n : ℕ) (t : Bytes) (b : ℕ) → untied n t b ≡ false → is_node n t b ≡ true
    → (answered n t (prev_at t) (next_at t b) (suc b) ≡ true) × (answered n t (next_at t) (prev_at t b) (suc b) ≡ true) × (ringed n t b ≡ false)
unfolding untied loose
untied_parts n t b e i =
    let w = or_no (not (answered n t (prev_at t) (next_at t b) (suc b)) || not (answered n t (next_at t) (prev_at t b) (suc b))) (ringed n t b) (ap (λ (x : Bool). x && ((not (answered n t (prev_at t) (next_at t b) (suc b)) || not (answered n t (next_at t) (prev_at t b) (suc b))) || ringed n t b)) (sym i) ∙ e) in
    let v = or_no (not (answered n t (prev_at t) (next_at t b) (suc b))) (not (answered n t (next_at t) (prev_at t b) (suc b))) w.0 in
    (not_no (answered n t (prev_at t) (next_at t b) (suc b)) v.0, not_no (answered n t (next_at t) (prev_at t b) (suc b)) v.1, w.1)

parts_untied : (n : ℕ) (t : Bytes) (b : ℕ)
    → (is_node n t b ≡ true → (answered n t (prev_at t) (next_at t b) (suc b) ≡ true) × (answered n t (next_at t) (prev_at t b) (suc b) ≡ true) × (ringed n t b ≡ false)) → untied n t b ≡ false
unfolding untied loose
parts_untied n t b f = ⊎_elim
    (λ i. let w = f i in ap (λ (x : Bool). x && ((not (answered n t (prev_at t) (next_at t b) (suc b)) || not (answered n t (next_at t) (prev_at t b) (suc b))) || ringed n t b)) i ∙ no_or (no_or (ap not w.0) (ap not w.1)) w.2)
    (λ i. ap (λ (x : Bool). x && ((not (answered n t (prev_at t) (next_at t b) (suc b)) || not (answered n t (next_at t) (prev_at t b) (suc b))) || ringed n t b)) i)
    (tell (is_node n t b))

pub none_ties : (n : ℕ) (t : Bytes) → (lowest n t n 0).rule ≡ 0 → Ties n t
none_ties n t e =
    let f : (b : ℕ) → is_node n t b ≡ true → (answered n t (prev_at t) (next_at t b) (suc b) ≡ true) × (answered n t (next_at t) (prev_at t b) (suc b) ≡ true) × (ringed n t b ≡ false) =
    λ b i. untied_parts n t b (lowest_none n t n 0 e b (omega arith) (omega (arith, node_below n t b i))) i in
    record {
      next = λ b j i q. answers n t (prev_at t) (next_at t b) (suc b) (f b i).0 j q;
      prev = λ b j i q. answers n t (next_at t) (prev_at t b) (suc b) (f b i).1 j q;
      lone = λ b i r. untrue (sym (f b i).2 ∙ ring_ringed n t b r);
    }

module _ (n : ℕ) (t : Bytes) (s : Ties n t) where
  forth : {x i : ℕ} {l : List ℕ} → Trail (hop n t) x i l → is_node n t i ≡ true → chains.Reached (prev_at t) (next_at t) i → chains.Reached (prev_at t) (next_at t) x
  forth Trail.end h w = w
  forth (Trail.on {i} {m} q r) h w =
      let o = hop_named n t i m q in
      forth r o.1 (chains.after {b = m} w o.0 (s.next i m h o.0).1)

  reach : (k : ℕ) {x i : ℕ} {l : List ℕ} → Trail (hop n t) x i l → Distinct l → ((z : ℕ) → z ∈ l → is_node n t z ≡ true) → is_node n t i ≡ true → n < k + length l
      → chains.Reached (prev_at t) (next_at t) x
  reach zero {l = l} r d a h f = absurd (omega (arith, at_most n l d (λ y m. node_below n t y (a y m))))
  reach (suc k) {x} {i} {l} r d a h f = go (prev_at t i) refl (λ j l r d a h f. reach k r d a h f)
    where
      go : (p : ℕ) → prev_at t i ≡ p
          → ((j : ℕ) (l : List ℕ) → Trail (hop n t) x j l → Distinct l → ((z : ℕ) → z ∈ l → is_node n t z ≡ true) → is_node n t j ≡ true → n < k + length l → chains.Reached (prev_at t) (next_at t) x)
          → chains.Reached (prev_at t) (next_at t) x
      go zero e ih = forth r h (chains.root e)
      go (suc p) e ih =
          let o = s.prev i p h e in
          let q : hop n t p ≡ suc i = named_hop n t p i o.1 h in
          ⊎_elim
          (λ m. absurd (s.lone i h (way_ring (hop n t) (trail_to (hop n t) r p m) q)))
          (λ m. ih p (p ∷ l) (Trail.on q r) (m, d) (λ z c. ⊎_elim (λ v. ap (is_node n t) v ∙ o.0) (λ v. a z v) c) o.0 (omega arith))
          (in_or_not p l)

  reached : (b : ℕ) → is_node n t b ≡ true → chains.Reached (prev_at t) (next_at t) b
  reached b h = reach n Trail.end (λ m. m, tt) (λ z c. ⊎_elim (λ v. ap (is_node n t) v ∙ h) (λ (v : ⊥). absurd v) c) h (omega arith)

some_index : (a : ℕ) → a ≢ 0 → (j : ℕ) × (a ≡ suc j)
some_index zero h = absurd (h refl)
some_index (suc j) h = (j, refl)

module _ (n : ℕ) (t : Bytes) (bytes : words.Bytes t) (room : length t ≡ 8 * (n + 1)) (st : Stand n t 0 (nodes n t)) (s : Ties n t) where
  in_is : (r : Run) → In r (nodes n t) → is_node n t r.start ≡ true
  in_is r m = node_is n t st r.start (in_node n t (nodes n t) st.cover st.node m)

  is_in : (b : ℕ) → is_node n t b ≡ true → (r : Run) × In r (nodes n t) × (r.start ≡ b)
  unfolding is_node
  is_in b e = starts_in (nodes n t) b e

  tied : u_at t 0 ≡ 0 → ((j : ℕ) → head_at t ≡ suc j → (is_node n t j ≡ true) × (prev_at t j ≡ 0)) → Tied (chains.Reached (prev_at t) (next_at t)) n t (nodes n t)
  tied u f = record {
    room = room;
    head = u;
    cover = st.cover;
    node = λ r m. node_holds t n r.start r.size bytes (st.node r m);
    next = λ r m h.
        let j = some_index (next_at t r.start) h in
        let o = s.next r.start j.0 (in_is r m) j.1 in
        let w = is_in j.0 o.0 in
        (w.0, w.1, ap suc w.2 ∙ sym j.1, ap (prev_at t) w.2 ∙ o.1);
    prev = λ r m h.
        let j = some_index (prev_at t r.start) h in
        let o = s.prev r.start j.0 (in_is r m) j.1 in
        let w = is_in j.0 o.0 in
        (w.0, w.1, ap suc w.2 ∙ sym j.1, ap (next_at t) w.2 ∙ o.1);
    reached = λ r m. reached n t s r.start (in_is r m);
    free = λ h.
        let j = some_index (head_at t) h in
        let o = f j.0 j.1 in
        let w = is_in j.0 o.0 in
        (w.0, w.1, ap suc w.2 ∙ sym j.1, ap (prev_at t) w.2 ∙ o.1);
  }

-- ---- the head

module _ (n : ℕ) (t : Bytes) where
  pub head_parts : head_fits n t ≡ true → (u_at t 0 ≡ 0) × (head_at t < top) × (answered n t (prev_at t) (head_at t) 0 ≡ true)
  unfolding head_fits
  head_parts e =
      let w = and_yes (eqb (u_at t 0) 0) (ltb (head_at t) top && answered n t (prev_at t) (head_at t) 0) e in
      let v = and_yes (ltb (head_at t) top) (answered n t (prev_at t) (head_at t) 0) w.1 in
      (eqb-true (u_at t 0) 0 w.0, ltb-true (head_at t) top v.0, v.1)

  pub parts_head : u_at t 0 ≡ 0 → head_at t < top → answered n t (prev_at t) (head_at t) 0 ≡ true → head_fits n t ≡ true
  unfolding head_fits
  parts_head u h a = yes_and (eq-eqb (u_at t 0) 0 u) (yes_and (lt-ltb (head_at t) top h) a)

  later_parts : (later_fault n t).rule ≡ 0 → (head_fits n t ≡ true) × ((lowest n t n 0).rule ≡ 0)
  unfolding later_fault when
  later_parts e = go (head_fits n t) e
    where
      go : (x : Bool) → (when x (lowest n t n 0) (fault 0 6)).rule ≡ 0 → (x ≡ true) × ((lowest n t n 0).rule ≡ 0)
      go true e = (refl, e)
      go false e = absurd (omega arith)

  parts_later : head_fits n t ≡ true → lowest n t n 0 ≡ unbroken → later_fault n t ≡ unbroken
  unfolding later_fault
  parts_later h l = when_yes _ _ _ h ∙ l

-- ---- sound: no fault

module _ (n : ℕ) (t : Bytes) (s : Sound t n) (st : Stand n t 0 (nodes n t)) where
  ring_node : {x : ℕ} → Ring (hop n t) x → IsNode t n x
  ring_node {x} r = let o = ring_last (hop n t) r in is_node_lem n t st x (hop_named n t o.0 x o.1).1

  -- one comes to no ring from a node with no previous
  no_ring : {i j : ℕ} → IsNode t n i → prev_at t i ≡ 0 → Path (next_at t) i j → IsNode t n j × (Ring (hop n t) j → ⊥)
  no_ring {i} h e here = (
    h,
    λ r.
        let o = ring_last (hop n t) r in
        let q = (hop_named n t o.0 i o.1).0 in
        omega (arith, e, (s.forth o.0 i (ring_node o.2) (omega (arith, q))).1),
  )
  no_ring h e (on {j} {m} p q) =
      let w = no_ring h e p in
      let f = s.forth j m w.0 q in (
        f.0,
        λ r.
            let o = ring_last (hop n t) r in
            let g = s.forth o.0 m (ring_node o.2) (omega (arith, (hop_named n t o.0 m o.1).0)) in
            w.1 (subst (Ring (hop n t)) (omega (arith, f.1, g.1)) o.2),
      )

  sound_untied : (b : ℕ) → untied n t b ≡ false
  sound_untied b = parts_untied n t b (λ i.
      let h = is_node_lem n t st b i in (
        answer n t (prev_at t) (next_at t b) (suc b) (λ j q. let f = s.forth b j h (omega (arith, q)) in (node_is n t st j f.0, omega (arith, f.1))),
        answer n t (next_at t) (prev_at t b) (suc b) (λ j q. let f = s.back b j h (omega (arith, q)) in (node_is n t st j f.0, omega (arith, f.1))),
        ⊎_elim
            (λ e. let w = s.whole b h in absurd ((no_ring w.node w.first w.path).1 (ringed_ring n t b e)))
            (λ e. e)
            (tell (ringed n t b)),
      ))

  sound_head : head_fits n t ≡ true
  sound_head = parts_head n t s.head.0 s.head.1
      (answer n t (prev_at t) (head_at t) 0 (λ j q. let f = s.free j (omega (arith, q)) in (node_is n t st j f.0, f.1)))

-- ---- a table of n blocks is sound exactly when it has no fault

module _ (n : ℕ) (small : n ≤ 1000000) (t : Bytes) (bytes : words.Bytes t) (room : length t ≡ 8 * (n + 1)) where
  pub none_sound : (fault_of n t).rule ≡ 0 → Sound t n
  unfolding fault_of
  none_sound e =
      let w = first_none _ _ e in
      let l = later_parts n t w.1 in
      let st = clear_stand n t w.0 in
      let ti = none_ties n t l.1 in
      let h = head_parts n t l.0 in
      let d = tied n t bytes room st ti h.0 (answers n t (prev_at t) (head_at t) 0 h.2) in
      let o = tied_holds (chains.Reached (prev_at t) (next_at t)) n t (nodes n t) d d.reached in
      holds_sound n small t o.0 o.1

  pub sound_none : Sound t n → fault_of n t ≡ unbroken
  unfolding fault_of
  sound_none s =
      let w = covered_clear n t small s.covered in
      let z : (walk_fault n t).rule ≡ 0 = ap (λ (f : Fault). f.rule) w in
      let st = clear_stand n t z in
      then_second _ _ z ∙ parts_later n t (sound_head n t s st) (none_lowest n t n 0 (sound_untied n t s st))

  pub sound_fault : Sound t n ↔ ((fault_of n t).rule ≡ 0)
  sound_fault = (λ s. ap (λ (f : Fault). f.rule) (sound_none s), none_sound)

-- of a table that is not sound a fault is found
pub finds_err : (n : ℕ) (t : Bytes) → n ≤ 1000000 → ((i : ℕ) → get_or t i 0 < 256) → length t ≡ 8 * (n + 1) → (r : Result (Unit {0}) Fault) → Finds (fault_of n t) r → (Sound t n → ⊥) → IsErr r
finds_err n t small bytes room (Ok done) e h = absurd (h (none_sound n small t (record { byte = bytes }) room (ap (λ (f : Fault). f.rule) e)))
finds_err n t small bytes room (Err f) p h = refl
