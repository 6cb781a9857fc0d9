-- What the second pass reads and writes at a node, and where it ends.
use mathlib.Core.Path.{◌≡◌, sym, ap, subst, subst⁻¹, ◌∙◌}
use mathlib.Core.List.{List}
use mathlib.Core.Logic.{◌⊎◌, inl, inr, ⊎_elim}
use Prim.Native.Nat.{ℕ, ◌+◌, ◌-◌, ◌*◌, ◌/◌, ◌%◌, ◌<◌, ◌≤◌}
use native.Mathlib.Nat.{eq-or-lt_of_le}
use native.Mathlib.Omega.{arith}
use lib.ListN.{get_or}
use Rattle.fat_node.specs.Entry.{top, u_at, v_at}
use Rattle.fat_node.specs.Node.{prev_at, next_at, NodeAt}
use Rattle.fat_node.proofs.Nodes.{le_or_lt}
use Rattle.fat_table.specs.Sound.{Starts, IsNode, Covered, Path, Sound, Along}
use Rattle.fat_table.specs.Sound.Path.{here, on}
use Rattle.fat_ends.specs.Inner.Ends.{span, Packed, Tail, Frag, State, Backs, TiedEnds, Joinable, Joined}
use Rattle.fat_ends.specs.Inner.Ends.Packed.{small, one, more}
use Rattle.fat_ends.proofs.Laws.{none_or_some, one_size}
use Rattle.fat_ends.proofs.Fragments.{part_of_total, two_of_total, le_total, same_total, path_append, gap, frag_i, frag_j, b_z, h_z, joined_state}

-- ---- what the code reads
tail_says : {t : List ℕ} {n h z p q s : ℕ} → Packed t n h z p q s → q < 2048 → q ≡ s
tail_says (small l e f) m = f
tail_says (one q a b k) m = absurd (omega arith)
tail_says (more d e f) m = absurd (omega arith)

head_says : {t : List ℕ} {n h z p q s : ℕ} → Packed t n h z p q s → p < 2048 → p ≡ s
head_says (small l e f) m = e
head_says (one q a b k) m = absurd (omega arith)
head_says (more d e f) m = absurd (omega arith)

pub sum_small : {t : List ℕ} {n h z p q : ℕ} → q < 2048 → (s : ℕ) → Packed t n h z p q s → q ≡ s
sum_small m s k = tail_says k m

pub sum_one : {t : List ℕ} {n h z p q r : ℕ} → 2048 ≤ q → h ≡ z → NodeAt t n h r → (s : ℕ) → Packed t n h z p q s → r ≡ s
sum_one m e k s (small l a b) = absurd (omega arith)
sum_one {t} {n} {h} {z} {p} {q} {r} m e k s (one f a b k') = one_size t n h r s k k'
sum_one m e k s (more d a b) = absurd (d e)

pub sum_more : {t : List ℕ} {n h z p q : ℕ} → 2048 ≤ q → (h ≡ z → ⊥) → (s : ℕ) → Packed t n h z p q s → (2048 ≤ p) × ((p - 2048) * 2048 + (q - 2048) ≡ s)
sum_more m e s (small l a b) = absurd (omega arith)
sum_more m e s (one f a b k') = absurd (e f)
sum_more m e s (more d a b) = omega arith

pub is_one : {t : List ℕ} {n h z p q s : ℕ} → 2048 ≤ q → h ≡ z → Packed t n h z p q s → NodeAt t n h s
is_one m e (small l a b) = absurd (omega arith)
is_one m e (one f a b k') = k'
is_one m e (more d a b) = absurd (d e)

pub start_of : {t : List ℕ} {n b : ℕ} {w : List ℕ} {k : ℕ} → State t n b w k → IsNode t n b → (h : ℕ) × ((get_or w b 0 % span ≡ h + 1) × (h < n))
start_of st nb = let f = st.tail _ (nb, inl (omega arith)) in (f.0, (f.1.first, f.1.node.1))

pub end_of : {t : List ℕ} {n b : ℕ} {w : List ℕ} {k : ℕ} → State t n b w k → (j : ℕ) → 0 < get_or w j 0 → prev_at t j ≡ b + 1 → (z : ℕ) × ((get_or w j 0 % span ≡ z + 1) × (z < n))
end_of st j m pr =
    let f = st.head j (st.node j m) (⊎_elim (λ q. q) (λ m. let p = st.joined j m in absurd (omega (arith, p.1.1, p.1.2))) (none_or_some (get_or st.a j 0))) in
    (f.0, (f.1.1.last, f.1.0.0.1))

module _ {t : List ℕ} {n b : ℕ} {w : List ℕ} {k : ℕ} (st : State t n b w k) (nb : IsNode t n b) (j h z : ℕ) (e : next_at t b ≡ j + 1) (mk : 0 < get_or w j 0) (pr : prev_at t j ≡ b + 1) (hd : get_or w b 0 % span ≡ h + 1) (la : get_or w j 0 % span ≡ z + 1) (ring : h ≡ j → ⊥) where
  pub sums_packed_i : Packed t n h b (get_or w h 0 / span) (get_or w b 0 / span) (get_or st.g b 0)
  sums_packed_i = (frag_i t n b w k st j h z 0 0 nb e (st.node j mk) pr hd la ring).packed

  pub sums_packed_j : Packed t n j z (get_or w j 0 / span) (get_or w z 0 / span) (get_or st.g z 0)
  sums_packed_j = (frag_j t n b w k st j h z 0 0 nb e (st.node j mk) pr hd la ring).packed

  pub sums_fit : get_or st.g b 0 + get_or st.g z 0 ≤ n
  sums_fit = omega (arith, two_of_total st.g b z (b_z t n b w k st j h z 0 0 nb e (st.node j mk) pr hd la ring), st.whole)

  apart_h_z : h ≡ z → ⊥
  apart_h_z = h_z t n b w k st j h z 0 0 nb e (st.node j mk) pr hd la ring

  done : (w' : List ℕ) (p q : ℕ) → Packed t n h z p q (get_or st.g b 0 + get_or st.g z 0) → TiedEnds w w' h z p q → State t n (b + 1) w' (k + 1)
  done w' p q pk d =
      subst⁻¹ (λ (y : List ℕ). State t n (b + 1) y (k + 1)) d.list
      (joined_state t n b w k st j h z d.A d.B nb e (st.node j mk) pr hd la ring d.A-end d.B-end
      (subst⁻¹ (λ (y : ℕ). Packed t n h z y (d.B / span) (get_or st.g b 0 + get_or st.g z 0)) d.A-part
      (subst⁻¹ (λ (y : ℕ). Packed t n h z p y (get_or st.g b 0 + get_or st.g z 0)) d.B-part pk)))

  pub join_small : (w' : List ℕ) (s : ℕ) → s ≡ get_or w b 0 / span + get_or w j 0 / span → s < 2048 → TiedEnds w w' h z s s → State t n (b + 1) w' (k + 1)
  join_small w' s q l d =
      let x : get_or w b 0 / span ≡ get_or st.g b 0 = tail_says sums_packed_i (omega arith) in
      let y : get_or w j 0 / span ≡ get_or st.g z 0 = head_says sums_packed_j (omega arith) in
      done w' s s (small (omega arith) (omega arith) (omega arith)) d

  pub join_grown : (w' : List ℕ) (s : ℕ) → s ≡ get_or w b 0 / span + get_or w j 0 / span → (2048 ≤ get_or w b 0 / span) × (get_or w j 0 / span < 2048) × (get_or w b 0 / span + get_or w j 0 / span < 4096) × (h ≡ b → ⊥) → TiedEnds w w' h z (get_or w h 0 / span) s → State t n (b + 1) w' (k + 1)
  join_grown w' s q c d =
      let y : get_or w j 0 / span ≡ get_or st.g z 0 = head_says sums_packed_j c.1 in
      done w' (get_or w h 0 / span) s (grown sums_packed_i) d
    where
      grown : Packed t n h b (get_or w h 0 / span) (get_or w b 0 / span) (get_or st.g b 0) → Packed t n h z (get_or w h 0 / span) s (get_or st.g b 0 + get_or st.g z 0)
      grown (small l e f) = absurd (omega (arith, c.0))
      grown (one e f g' i) = absurd (c.3 e)
      grown (more e f g') =
          let y : get_or w j 0 / span ≡ get_or st.g z 0 = head_says sums_packed_j c.1 in
          more apart_h_z (omega (arith, c.0, c.2)) (omega (arith, c.0, c.2))

  pub join_sunk : (w' : List ℕ) (s : ℕ) → s ≡ get_or w z 0 / span + get_or w b 0 / span → (2048 ≤ get_or w z 0 / span) × (get_or w b 0 / span < 2048) × (get_or w z 0 / span + get_or w b 0 / span < 4096) × (j ≡ z → ⊥) → TiedEnds w w' h z (get_or w j 0 / span) s → State t n (b + 1) w' (k + 1)
  join_sunk w' s q c d = done w' (get_or w j 0 / span) s (sunk sums_packed_j) d
    where
      sunk : Packed t n j z (get_or w j 0 / span) (get_or w z 0 / span) (get_or st.g z 0) → Packed t n h z (get_or w j 0 / span) s (get_or st.g b 0 + get_or st.g z 0)
      sunk (small l e f) = absurd (omega (arith, c.0))
      sunk (one e f g' i) = absurd (c.3 e)
      sunk (more e f g') =
          let x : get_or w b 0 / span ≡ get_or st.g b 0 = tail_says sums_packed_i c.1 in
          more apart_h_z (omega (arith, c.0, c.2)) (omega (arith, c.0, c.2))

  pub join_large : (w' : List ℕ) (m m₁ m₂ : ℕ) → m ≡ m₁ + m₂ → ((s : ℕ) → Packed t n h b (get_or w h 0 / span) (get_or w b 0 / span) s → m₁ ≡ s) → ((s : ℕ) → Packed t n j z (get_or w j 0 / span) (get_or w z 0 / span) s → m₂ ≡ s) → TiedEnds w w' h z (2048 + m / 2048) (2048 + m % 2048) → State t n (b + 1) w' (k + 1)
  join_large w' m m₁ m₂ q f₁ f₂ d =
      let x : m₁ ≡ get_or st.g b 0 = f₁ _ sums_packed_i in
      let y : m₂ ≡ get_or st.g z 0 = f₂ _ sums_packed_j in
      let v : m ≡ get_or st.g b 0 + get_or st.g z 0 = omega arith in
      done w' (2048 + m / 2048) (2048 + m % 2048) (more apart_h_z (ap (λ (y : ℕ). 2048 + y / 2048) v) (ap (λ (y : ℕ). 2048 + y % 2048) v)) d

-- ---- the same, of what is joinable
module _ {t : List ℕ} {n b : ℕ} {w : List ℕ} {j h z : ℕ} (J : Joinable t n b w j h z) where
  pub places : (h < n) × (j < n) × (z < n) × (b < n)
  places =
      let x = start_of J.state J.node in
      let y = end_of J.state j J.mark J.back in
      let p : x.0 ≡ h = omega (arith, x.1.0, J.first) in
      let q : y.0 ≡ z = omega (arith, y.1.0, J.last) in
      (omega (arith, x.1.1), (J.state.node j J.mark).1, omega (arith, y.1.1), J.node.1)

  pub packed_i : Packed t n h b (get_or w h 0 / span) (get_or w b 0 / span) (get_or J.state.g b 0)
  packed_i = sums_packed_i J.state J.node j h z J.next J.mark J.back J.first J.last J.ring

  pub packed_j : Packed t n j z (get_or w j 0 / span) (get_or w z 0 / span) (get_or J.state.g z 0)
  packed_j = sums_packed_j J.state J.node j h z J.next J.mark J.back J.first J.last J.ring

  pub both_fit : get_or J.state.g b 0 + get_or J.state.g z 0 ≤ n
  both_fit = sums_fit J.state J.node j h z J.next J.mark J.back J.first J.last J.ring

  pub merged_small : {w' : List ℕ} {s : ℕ} → s ≡ get_or w b 0 / span + get_or w j 0 / span → s < 2048 → TiedEnds w w' h z s s → Joined t n b w w'
  merged_small {w'} {s} q l d k st = join_small st J.node j h z J.next J.mark J.back J.first J.last J.ring w' s q l d

  pub merged_grown : {w' : List ℕ} {s : ℕ} → s ≡ get_or w b 0 / span + get_or w j 0 / span → (2048 ≤ get_or w b 0 / span) × (get_or w j 0 / span < 2048) × (get_or w b 0 / span + get_or w j 0 / span < 4096) × (h ≡ b → ⊥) → TiedEnds w w' h z (get_or w h 0 / span) s → Joined t n b w w'
  merged_grown {w'} {s} q c d k st = join_grown st J.node j h z J.next J.mark J.back J.first J.last J.ring w' s q c d

  pub merged_sunk : {w' : List ℕ} {s : ℕ} → s ≡ get_or w z 0 / span + get_or w b 0 / span → (2048 ≤ get_or w z 0 / span) × (get_or w b 0 / span < 2048) × (get_or w z 0 / span + get_or w b 0 / span < 4096) × (j ≡ z → ⊥) → TiedEnds w w' h z (get_or w j 0 / span) s → Joined t n b w w'
  merged_sunk {w'} {s} q c d k st = join_sunk st J.node j h z J.next J.mark J.back J.first J.last J.ring w' s q c d

  pub merged_large : {w' : List ℕ} {m m₁ m₂ : ℕ} → m ≡ m₁ + m₂ → ((s : ℕ) → Packed t n h b (get_or w h 0 / span) (get_or w b 0 / span) s → m₁ ≡ s) → ((s : ℕ) → Packed t n j z (get_or w j 0 / span) (get_or w z 0 / span) s → m₂ ≡ s) → TiedEnds w w' h z (2048 + m / 2048) (2048 + m % 2048) → Joined t n b w w'
  merged_large {w'} {m} {m₁} {m₂} q f g d k st = join_large st J.node j h z J.next J.mark J.back J.first J.last J.ring w' m m₁ m₂ q f g d

-- ---- on to the next node
pub shift : {t : List ℕ} {n b : ℕ} {w : List ℕ} {k : ℕ} → State t n b w k → (c : ℕ) → b ≤ c → ((x : ℕ) → IsNode t n x → b ≤ x → (c ≤ x) ⊎ (next_at t x ≡ 0)) → State t n c w k
shift {t} {n} {b} {w} {k} st c l f =
    record {
      g = st.g;
      a = st.a;
      long = st.long;
      long_a = st.long_a;
      long_g = st.long_g;
      whole = st.whole;
      joins = st.joins;
      mark = st.mark;
      node = st.node;
      tail = λ z d. let r = st.tail z (d.0, ⊎_elim (λ m. inl (omega arith)) (λ m. inr m) d.1) in (r.0, mono r.0 z r.1);
      head = λ h i q. let r = st.head h i q in (r.0, ((r.1.0.0, ⊎_elim (λ m. f r.0 r.1.0.0 m) (λ m. inr m) r.1.0.1), mono h r.0 r.1.1));
      reach = st.reach;
      joined = λ x m. let r = st.joined x m in (r.0, (r.1.0, omega (arith, r.1.1), r.1.2, r.1.3, r.1.4, r.1.5));
      forth = λ i j d m e. st.forth i j d (below i d m (omega arith)) e;
    }
  where
    mono : (h z : ℕ) → Frag t n b w st.a st.g h z → Frag t n c w st.a st.g h z
    mono h z r =
        record {
          node = r.node;
          head = r.head;
          last = r.last;
          first = r.first;
          path = r.path;
          packed = r.packed;
          along = r.along;
          apart = ⊎_elim (λ q. inl q) (λ q. inr (omega (arith, q.0), q.1, q.2)) r.apart;
        }

    below : (i : ℕ) → IsNode t n i → i < c → 0 < next_at t i → i < b
    below i d m e = ⊎_elim (λ q. ⊎_elim (λ s. absurd (omega arith)) (λ s. absurd (omega arith)) (f i d q)) (λ q. q) (le_or_lt b i)

module _ {t : List ℕ} {n b s : ℕ} {w : List ℕ} {k : ℕ} (sb : Starts t n b) (nd : NodeAt t n b s) where
  pub past_joined : State t n (b + 1) w k → State t n (b + s) w k
  past_joined st = shift st (b + s) (omega (arith, nd.some)) (λ x i l. inl (gap t n b s x sb nd i.0 (omega arith)))

-- ---- no ring in a sound table
module _ {t : List ℕ} {n : ℕ} (s : Sound t n) {j b : ℕ} (nj : IsNode t n j) (nb : IsNode t n b) (p : Path (next_at t) j b) (e : next_at t b ≡ j + 1) where
  path_node : {i x : ℕ} → IsNode t n i → Path (next_at t) i x → IsNode t n x
  path_node i here = i
  path_node i (on {j = y} {m = x} q f) = (s.forth y x (path_node i q) f).0

  prev_on : (x : ℕ) → Path (next_at t) j x → Path (next_at t) x b → (y : ℕ) × ((prev_at t x ≡ y + 1) × Path (next_at t) j y × Path (next_at t) y b)
  prev_on x here r = (b, ((s.forth b j nb e).1, p, here))
  prev_on x (on {j = y} q f) r = (y, ((s.forth y x (path_node nj q) f).1, q, path_append (on here f) r))

  back_on : {i x : ℕ} → IsNode t n i → prev_at t i ≡ 0 → Path (next_at t) i x → Path (next_at t) j x → Path (next_at t) x b → ⊥
  back_on {i} d z here q r = let y = prev_on i q r in omega (arith, y.1.0)
  back_on d z (on {j = y} {m = x} l f) q r =
      let v = prev_on x q r in
      let u : v.0 ≡ y = omega (arith, v.1.0, (s.forth y x (path_node d l) f).1) in
      back_on d z l (subst (Path (next_at t) j) u v.1.1) (subst (λ (m : ℕ). Path (next_at t) m b) u v.1.2)

  pub no_ring : ⊥
  no_ring = let r = s.whole j nj in back_on r.node r.first r.path here p

pub ring_broken : {t : List ℕ} {n b : ℕ} {w : List ℕ} {k : ℕ} → State t n b w k → IsNode t n b → (j : ℕ) → 0 < get_or w j 0 → next_at t b ≡ j + 1 → get_or w b 0 % span ≡ j + 1 → Sound t n → ⊥
ring_broken {t} {n} {b} st nb j m e q s =
    let f = st.tail b (nb, inl (omega arith)) in
    let h : f.0 ≡ j = omega (arith, f.1.first) in
    no_ring s (st.node j m) nb (subst (λ (x : ℕ). Path (next_at t) x b) h f.1.path) e

-- ---- the end
module _ {t : List ℕ} {n k : ℕ} {w : List ℕ} (st : State t n n w k) where
  a_le_c : {m : ℕ} (bs : Backs t n n m) (x : ℕ) → get_or st.a x 0 ≤ get_or bs.c x 0
  a_le_c bs x =
      ⊎_elim (λ z. omega arith)
      (λ m.
      let p = st.joined x m in
      omega (arith, p.1.4, bs.yes x p.1.5 p.1.5.1 (omega (arith, p.1.2))))
      (none_or_some (get_or st.a x 0))

  pub counts_agree : {m : ℕ} → Backs t n n m → Sound t n → k ≡ m
  counts_agree bs s =
      let l = le_total st.a bs.c (st.long_a ∙ sym bs.long) (a_le_c bs) in
      let g = le_total bs.c st.a (bs.long ∙ sym st.long_a) c_le_a in
      omega (arith, st.joins, bs.count)
    where
      c_le_a : (x : ℕ) → get_or bs.c x 0 ≤ get_or st.a x 0
      c_le_a x =
          ⊎_elim (λ z. omega arith)
          (λ m.
          let p = bs.only x m in
          let v : prev_at t x ≡ (prev_at t x - 1) + 1 = omega (arith, p.2) in
          let u = s.back x (prev_at t x - 1) p.0 v in
          omega (arith, p.3, (st.forth (prev_at t x - 1) x u.0 u.0.1 u.1).2))
          (none_or_some (get_or bs.c x 0))

  module _ (bs : Backs t n n k) where
    a_is : (x : ℕ) → IsNode t n x → 0 < prev_at t x → get_or st.a x 0 ≡ 1
    a_is x i m = omega (arith, same_total st.a bs.c (st.long_a ∙ sym bs.long) (a_le_c bs) (st.joins ∙ sym bs.count) x, bs.yes x i i.1 m)

    pub ends_sound : (u_at t 0 ≡ 0) × (v_at t 0 < top) → Covered t n → ((j : ℕ) → v_at t 0 ≡ j + 1 → IsNode t n j × (prev_at t j ≡ 0)) → Sound t n
    ends_sound h c f =
        record {
          head = h;
          covered = c;
          forth = λ b j i e. let r = st.forth b j i i.1 e in (r.0, r.1);
          back =
              λ b j i e.
              let r = st.joined b (omega (arith, a_is b i (omega arith))) in
              let q : r.0 ≡ j = omega (arith, r.1.2) in
              subst (λ (y : ℕ). IsNode t n y × (next_at t y ≡ b + 1)) q (r.1.0, r.1.3);
          whole =
              λ b i.
              let r = st.reach b i in
              record {
                start = r.0;
                node = r.1.0;
                first = ⊎_elim (λ z. z) (λ m. absurd (omega (arith, a_is r.0 r.1.0 m, r.1.1))) (none_or_some (prev_at t r.0));
                path = r.1.2;
              };
          free = f;
        }

-- the free chain
module _ {t : List ℕ} {n k : ℕ} {w : List ℕ} (st : State t n n w k) (f : ℕ) (i : IsNode t n f) (z : prev_at t f ≡ 0) where
  pub free_frag : (y : ℕ) × (Tail t n n y × Frag t n n w st.a st.g f y)
  free_frag = st.head f i (⊎_elim (λ q. q) (λ m. absurd (omega (arith, (st.joined f m).1.2))) (none_or_some (get_or st.a f 0)))

  pub free_fits : get_or st.g free_frag.0 0 ≤ n
  free_fits = omega (arith, part_of_total st.g free_frag.0, st.whole)

  pub free_along : Along t n (f + 1) (get_or st.g free_frag.0 0)
  free_along =
      let y = free_frag in
      let e : next_at t y.0 ≡ 0 = ⊎_elim (λ l. absurd (omega (arith, y.1.0.0.1))) (λ q. q) y.1.0.1 in
      subst (Along t n (f + 1)) (omega arith) (y.1.1.along 0 (subst⁻¹ (λ (x : ℕ). Along t n x 0) e Along.end))

-- ---- a node's size, read again
pub size_one : {t : List ℕ} {n b s : ℕ} → NodeAt t n b s → v_at t (b + 1) < top → NodeAt t n b 1
size_one {t} {n} {b} {s} k l =
    ⊎_elim (λ e. subst (NodeAt t n b) (sym e) k) (λ m. absurd (omega (arith, k.more m))) (eq-or-lt_of_le k.some)

pub size_more : {t : List ℕ} {n b s : ℕ} → NodeAt t n b s → top ≤ v_at t (b + 1) → (b + 2 ≤ n) × (v_at t (b + 2) ≡ b + s)
size_more k l =
    ⊎_elim (λ e. absurd (omega (arith, k.one (sym e)))) (λ m. (omega (arith, k.within), (k.more m).1.1)) (eq-or-lt_of_le k.some)
