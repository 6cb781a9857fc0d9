-- A node joined to its next: two fragments become one.
use mathlib.Core.Path.{◌≡◌, refl, sym, ap, subst, ◌∙◌}
use mathlib.Core.List.{List, [], ◌∷◌}
use mathlib.Core.Logic.{◌⊎◌, inl, inr, ⊎_elim}
use Prim.Native.Nat.{ℕ, zero, suc, ◌+◌, ◌/◌, ◌%◌, ◌<◌, ◌≤◌}
use native.Mathlib.Nat.{eq-or-lt_of_le}
use native.Mathlib.Omega.{arith}
use lib.ListN.{length, get_or, set, replicate, length-set, length-replicate}
use lib.Seq.{get_or-set_same}
use Rattle.fat_node.specs.Node.{prev_at, next_at, NodeAt}
use Rattle.fat_node.proofs.Nodes.{le_or_lt}
use Rattle.links.proofs.Held.{same_or}
use Rattle.fat_table.specs.Sound.{Starts, IsNode, Path, Along}
use Rattle.fat_table.specs.Sound.Starts.{begin, after}
use Rattle.fat_table.specs.Sound.Path.{here, on}
use Rattle.fat_ends.specs.Inner.Marks.{sum, SizesAt}
use Rattle.fat_ends.specs.Inner.Ends.{span, Packed, Fresh, Tail, Frag, State}
use Rattle.fat_ends.proofs.Laws.{none_or_some, set_cases, total_in, total_zeros, zeros_at, one_size}

-- ---- numbers and places
pub other : (l : List ℕ) (i v x : ℕ) → (x ≡ i → ⊥) → get_or (set l i v) x 0 ≡ get_or l x 0
other l i v x f = ⊎_elim (λ e. absurd (f e)) (λ g. g) (set_cases l i v x)

total_set : (l : List ℕ) (i v : ℕ) → i < length l → sum (set l i v) + get_or l i 0 ≡ sum l + v
unfolding sum
total_set [] i v h = omega arith
total_set (x ∷ l) zero v h = omega arith
total_set (x ∷ l) (suc i) v h = omega (arith, total_set l i v (omega arith))

pub part_of_total : (l : List ℕ) (i : ℕ) → get_or l i 0 ≤ sum l
unfolding sum
part_of_total [] i = omega arith
part_of_total (x ∷ l) zero = omega arith
part_of_total (x ∷ l) (suc i) = omega (arith, part_of_total l i)

pub two_of_total : (l : List ℕ) (i j : ℕ) → (i ≡ j → ⊥) → get_or l i 0 + get_or l j 0 ≤ sum l
unfolding sum
two_of_total [] i j f = omega arith
two_of_total (x ∷ l) zero zero f = absurd (f refl)
two_of_total (x ∷ l) zero (suc j) f = omega (arith, part_of_total l j)
two_of_total (x ∷ l) (suc i) zero f = omega (arith, part_of_total l i)
two_of_total (x ∷ l) (suc i) (suc j) f = omega (arith, two_of_total l i j (λ e. f (ap suc e)))

-- of two lists of one length, one nowhere above the other: if their totals agree, they do
pub le_total : (l m : List ℕ) → length l ≡ length m → ((i : ℕ) → get_or l i 0 ≤ get_or m i 0) → sum l ≤ sum m
unfolding sum
le_total [] [] e h = omega arith
le_total [] (y ∷ m) e h = omega arith
le_total (x ∷ l) [] e h = omega arith
le_total (x ∷ l) (y ∷ m) e h = omega (arith, h 0, le_total l m (omega arith) (λ i. h (suc i)))

pub same_total : (l m : List ℕ) → length l ≡ length m → ((i : ℕ) → get_or l i 0 ≤ get_or m i 0) → sum l ≡ sum m → (i : ℕ) → get_or l i 0 ≡ get_or m i 0
unfolding sum
same_total [] [] e h t i = refl
same_total [] (y ∷ m) e h t i = absurd (omega arith)
same_total (x ∷ l) [] e h t i = absurd (omega arith)
same_total (x ∷ l) (y ∷ m) e h t zero = omega (arith, h 0, le_total l m (omega arith) (λ i. h (suc i)))
same_total (x ∷ l) (y ∷ m) e h t (suc i) = same_total l m (omega arith) (λ i. h (suc i)) (omega (arith, h 0, le_total l m (omega arith) (λ i. h (suc i)))) i

keeps_one : (l : List ℕ) (i x : ℕ) → i < length l → get_or l x 0 ≡ 1 → get_or (set l i 1) x 0 ≡ 1
keeps_one l i x h e =
    ⊎_elim (λ q. subst (λ (y : ℕ). get_or (set l i 1) y 0 ≡ 1) (sym q) (get_or-set_same l i 1 0 h)) (λ g. g ∙ e) (set_cases l i 1 x)

-- ---- paths
pub path_append : {next : ℕ → ℕ} {i j m : ℕ} → Path next i j → Path next j m → Path next i m
path_append p here = p
path_append p (on q e) = on (path_append p q) e

-- ---- no node starts inside another
gap_fuel : (t : List ℕ) (n f b s x : ℕ) → x + b < f → Starts t n b → NodeAt t n b s → Starts t n x → b < x → b + s ≤ x
gap_fuel t n zero b s x h sb nb sx l = absurd (omega arith)
gap_fuel t n (suc f) b s x h sb nb begin l = absurd (omega arith)
gap_fuel t n (suc f) b s x h sb nb (after {b = c} {s = s'} sc nc e) l =
    ⊎_elim
    (λ q. let r = one_size t n c s' s nc (subst (λ (y : ℕ). NodeAt t n y s) q nb) in omega arith)
    (λ q.
    ⊎_elim
    (λ m. let r = gap_fuel t n f b s c (omega (arith, nc.some)) sb nb sc m in omega arith)
    (λ m. let r = gap_fuel t n f c s' b (omega (arith, nc.some)) sc nc sb m in absurd (omega arith))
    (apart q))
    (same_or b c)
  where
    apart : (b ≡ c → ⊥) → (b < c) ⊎ (c < b)
    apart q = ⊎_elim (λ k. ⊎_elim (λ e. absurd (q e)) (λ k. inl k) (eq-or-lt_of_le k)) (λ k. inr k) (le_or_lt b c)

pub gap : (t : List ℕ) (n b s x : ℕ) → Starts t n b → NodeAt t n b s → Starts t n x → b < x → b + s ≤ x
gap t n b s x = gap_fuel t n (suc (x + b)) b s x (omega arith)

-- ---- the start: every node is a fragment
module _ (t : List ℕ) (n : ℕ) (w g : List ℕ) (k : SizesAt t n g) (f : Fresh t n g w) (lw : length w ≡ n) (lg : length g ≡ n) where
  begin_frag : (x : ℕ) → IsNode t n x → Frag t n 0 w (replicate n 0) g x x
  begin_frag x i =
      let m : 0 < get_or g x 0 = k.mark x i in
      record {
        node = i;
        head = zeros_at n x;
        last = f.end x m;
        first = f.end x m;
        path = here;
        packed = f.part x m;
        along = λ r al. Along.node (k.node x m).1 al;
        apart = inl refl;
      }

  pub begin_state : State t n 0 w 0
  begin_state =
      record {
        g = g;
        a = replicate n 0;
        long = lw;
        long_a = length-replicate n 0;
        long_g = lg;
        whole = k.whole;
        joins = total_zeros n;
        mark = λ x i. let e = f.end x (k.mark x i) in ⊎_elim (λ z. absurd (omega (arith, ap (λ (y : ℕ). y % span) z))) (λ m. m) (none_or_some (get_or w x 0));
        node = λ x m. ⊎_elim (λ z. absurd (omega (arith, f.none x z))) (λ p. (k.node x p).0) (none_or_some (get_or g x 0));
        tail = λ z d. (z, begin_frag z d.0);
        head = λ h i e. (h, ((i, inl (omega arith)), begin_frag h i));
        reach = λ x i. (x, (i, zeros_at n x, here));
        joined = λ x m. absurd (omega (arith, zeros_at n x));
        forth = λ i j d l. absurd (omega arith);
      }

-- ---- a join: the node at b and its next, at j, where the fragments (h .. b) and (j .. z) become one
module _ (t : List ℕ) (n b : ℕ) (w : List ℕ) (k : ℕ) (st : State t n b w k) (j h z A B : ℕ) (nb : IsNode t n b) (e : next_at t b ≡ j + 1) (nj : IsNode t n j) (pr : prev_at t j ≡ b + 1) (hd : get_or w b 0 % span ≡ h + 1) (la : get_or w j 0 % span ≡ z + 1) (ring : h ≡ j → ⊥) where
  pub frag_i : Frag t n b w st.a st.g h b
  frag_i =
      let f = st.tail b (nb, inl (omega arith)) in
      subst (λ (x : ℕ). Frag t n b w st.a st.g x b) (omega (arith, f.1.first)) f.1

  j_free : get_or st.a j 0 ≡ 0
  j_free =
      ⊎_elim (λ q. q) (λ m. let p = st.joined j m in absurd (omega (arith, p.1.1, p.1.2))) (none_or_some (get_or st.a j 0))

  tail_frag_j : Tail t n b z × Frag t n b w st.a st.g j z
  tail_frag_j =
      let f = st.head j nj j_free in
      subst (λ (x : ℕ). Tail t n b x × Frag t n b w st.a st.g j x) (omega (arith, f.1.1.last)) f.1

  pub frag_j : Frag t n b w st.a st.g j z
  frag_j = tail_frag_j.1

  pub b_z : b ≡ z → ⊥
  b_z q = ring (let p = ap (λ (x : ℕ). get_or w x 0 % span) q in omega (arith, frag_i.first, frag_j.first))

  pub h_z : h ≡ z → ⊥
  h_z q =
      ⊎_elim
      (λ r. ring (omega arith))
      (λ r. let p = ap (λ (x : ℕ). get_or st.a x 0) q in omega (arith, r.2, frag_i.head))
      frag_j.apart

  w' : List ℕ
  w' = set (set w h A) z B

  a' : List ℕ
  a' = set st.a j 1

  g' : List ℕ
  g' = set (set st.g b 0) z (get_or st.g b 0 + get_or st.g z 0)

  z_in : z < n
  z_in = tail_frag_j.0.0.1

  w_h : get_or w' h 0 ≡ A
  unfolding w'
  w_h = other (set w h A) z B h h_z ∙ get_or-set_same w h A 0 (omega (arith, frag_i.node.1, st.long))

  w_z : get_or w' z 0 ≡ B
  unfolding w'
  w_z = get_or-set_same (set w h A) z B 0 (omega (arith, z_in, st.long, length-set w h A))

  w_else : (x : ℕ) → (x ≡ h → ⊥) → (x ≡ z → ⊥) → get_or w' x 0 ≡ get_or w x 0
  unfolding w'
  w_else x p q = other (set w h A) z B x q ∙ other w h A x p

  a_j : get_or a' j 0 ≡ 1
  unfolding a'
  a_j = get_or-set_same st.a j 1 0 (omega (arith, nj.1, st.long_a))

  a_else : (x : ℕ) → (x ≡ j → ⊥) → get_or a' x 0 ≡ get_or st.a x 0
  unfolding a'
  a_else x p = other st.a j 1 x p

  a_one : (x : ℕ) → get_or st.a x 0 ≡ 1 → get_or a' x 0 ≡ 1
  unfolding a'
  a_one x q = keeps_one st.a j x (omega (arith, nj.1, st.long_a)) q

  g_z : get_or g' z 0 ≡ get_or st.g b 0 + get_or st.g z 0
  unfolding g'
  g_z = get_or-set_same (set st.g b 0) z (get_or st.g b 0 + get_or st.g z 0) 0 (omega (arith, z_in, st.long_g, length-set st.g b 0))

  g_else : (x : ℕ) → (x ≡ b → ⊥) → (x ≡ z → ⊥) → get_or g' x 0 ≡ get_or st.g x 0
  unfolding g'
  g_else x p q = other (set st.g b 0) z (get_or st.g b 0 + get_or st.g z 0) x q ∙ other st.g b 0 x p

  h_past : (h < b + 1) × (0 < next_at t h)
  h_past =
      ⊎_elim (λ q. (omega arith, omega (arith, ap (next_at t) q))) (λ r. (omega (arith, r.0), r.1)) frag_i.apart

  -- a node that still ends a fragment is neither b nor h
  not_b : (x : ℕ) → Tail t n (b + 1) x → x ≡ b → ⊥
  not_b x d q = ⊎_elim (λ l. omega arith) (λ l. omega (arith, ap (next_at t) q)) d.1

  not_h : (x : ℕ) → Tail t n (b + 1) x → x ≡ h → ⊥
  not_h x d q = ⊎_elim (λ l. omega (arith, h_past.0)) (λ l. omega (arith, h_past.1, ap (next_at t) q)) d.1

  keep : (f x : ℕ) → Tail t n (b + 1) x → (x ≡ z → ⊥) → Frag t n b w st.a st.g f x → Frag t n (b + 1) w' a' g' f x
  keep f x d nz fr =
      let f_h : f ≡ h → ⊥ = λ q. not_b x d (let p = ap (λ (y : ℕ). get_or w y 0 % span) q in omega (arith, fr.last, frag_i.last)) in
      let f_j : f ≡ j → ⊥ = λ q. nz (let p = ap (λ (y : ℕ). get_or w y 0 % span) q in omega (arith, fr.last)) in
      let f_z : f ≡ z → ⊥ =
      λ q.
      ⊎_elim
      (λ r. f_j (omega arith))
      (λ r. let p = ap (λ (y : ℕ). get_or st.a y 0) q in omega (arith, r.2, fr.head))
      frag_j.apart in
      let ef : get_or w' f 0 ≡ get_or w f 0 = w_else f f_h f_z in
      let ex : get_or w' x 0 ≡ get_or w x 0 = w_else x (not_h x d) nz in
      let eg : get_or g' x 0 ≡ get_or st.g x 0 = g_else x (not_b x d) nz in
      record {
        node = fr.node;
        head = a_else f f_j ∙ fr.head;
        last = ap (λ (y : ℕ). y % span) ef ∙ fr.last;
        first = ap (λ (y : ℕ). y % span) ex ∙ fr.first;
        path = fr.path;
        packed =
            subst (λ (y : ℕ). Packed t n f x (get_or w' f 0 / span) (get_or w' x 0 / span) y) (sym eg)
            (subst (λ (y : ℕ). Packed t n f x (get_or w' f 0 / span) (y / span) (get_or st.g x 0)) (sym ex)
            (subst (λ (y : ℕ). Packed t n f x (y / span) (get_or w x 0 / span) (get_or st.g x 0)) (sym ef) fr.packed));
        along = λ m al. subst (λ (y : ℕ). Along t n (f + 1) (y + m)) (sym eg) (fr.along m al);
        apart = ⊎_elim (λ q. inl q) (λ r. inr (omega (arith, r.0), r.1, a_one x r.2)) fr.apart;
      }

  path_hj : Path (next_at t) h j
  path_hj = on frag_i.path e

  module _ (A-end : A % span ≡ z + 1) (B-end : B % span ≡ h + 1) (pk : Packed t n h z (A / span) (B / span) (get_or st.g b 0 + get_or st.g z 0)) where
    new : Frag t n (b + 1) w' a' g' h z
    new =
        record {
          node = frag_i.node;
          head = a_else h ring ∙ frag_i.head;
          last = ap (λ (y : ℕ). y % span) w_h ∙ A-end;
          first = ap (λ (y : ℕ). y % span) w_z ∙ B-end;
          path = path_append path_hj frag_j.path;
          packed =
              subst (λ (y : ℕ). Packed t n h z (get_or w' h 0 / span) (get_or w' z 0 / span) y) (sym g_z)
              (subst (λ (y : ℕ). Packed t n h z (get_or w' h 0 / span) (y / span) (get_or st.g b 0 + get_or st.g z 0)) (sym w_z)
              (subst (λ (y : ℕ). Packed t n h z (y / span) (B / span) (get_or st.g b 0 + get_or st.g z 0)) (sym w_h) pk));
          along =
              λ m al.
              subst (Along t n (h + 1)) (omega (arith, g_z))
              (frag_i.along (get_or st.g z 0 + m) (subst (λ (y : ℕ). Along t n y (get_or st.g z 0 + m)) (sym e) (frag_j.along m al)));
          apart =
              inr (h_past.0, h_past.1, ⊎_elim (λ q. subst (λ (y : ℕ). get_or a' y 0 ≡ 1) q a_j) (λ r. a_one z r.2) frag_j.apart);
        }

    tail_z : Tail t n (b + 1) z
    tail_z = (tail_frag_j.0.0, ⊎_elim (λ l. ⊎_elim (λ q. absurd (b_z q)) (λ m. inl (omega arith)) (eq-or-lt_of_le l)) (λ r. inr r) tail_frag_j.0.1)

    old : (x : ℕ) → Tail t n (b + 1) x → Tail t n b x
    old x d = (d.0, ⊎_elim (λ l. inl (omega arith)) (λ r. inr r) d.1)

    tail' : (x : ℕ) → Tail t n (b + 1) x → (f : ℕ) × Frag t n (b + 1) w' a' g' f x
    tail' x d =
        ⊎_elim
        (λ q. (h, subst (λ (y : ℕ). Frag t n (b + 1) w' a' g' h y) (sym q) new))
        (λ q. let f = st.tail x (old x d) in (f.0, keep f.0 x d q f.1))
        (same_or x z)

    head' : (x : ℕ) → IsNode t n x → get_or a' x 0 ≡ 0 → (y : ℕ) × (Tail t n (b + 1) y × Frag t n (b + 1) w' a' g' x y)
    head' x i q =
        let x_j : x ≡ j → ⊥ = λ r. (let p = ap (λ (y : ℕ). get_or a' y 0) r in omega (arith, a_j)) in
        ⊎_elim
        (λ r. (z, (tail_z, subst (λ (y : ℕ). Frag t n (b + 1) w' a' g' y z) (sym r) new)))
        (λ r.
        let f = st.head x i (sym (a_else x x_j) ∙ q) in
        let y_z : f.0 ≡ z → ⊥ = λ r. x_j (let p = ap (λ (y : ℕ). get_or w y 0 % span) r in omega (arith, f.1.1.first, frag_j.first)) in
        let y_b : b ≡ f.0 → ⊥ = λ s. r (let p = ap (λ (y : ℕ). get_or w y 0 % span) s in omega (arith, f.1.1.first, frag_i.first)) in
        let d : Tail t n (b + 1) f.0 = (f.1.0.0, ⊎_elim (λ l. ⊎_elim (λ s. absurd (y_b s)) (λ m. inl (omega arith)) (eq-or-lt_of_le l)) (λ s. inr s) f.1.0.1) in
        (f.0, (d, keep x f.0 d y_z f.1.1)))
        (same_or x h)

    reach' : (x : ℕ) → IsNode t n x → (f : ℕ) × (IsNode t n f × (get_or a' f 0 ≡ 0) × Path (next_at t) f x)
    reach' x i =
        let f = st.reach x i in
        ⊎_elim
        (λ q. (h, (frag_i.node, a_else h ring ∙ frag_i.head, path_append path_hj (subst (λ (y : ℕ). Path (next_at t) y x) q f.1.2))))
        (λ q. (f.0, (f.1.0, a_else f.0 q ∙ f.1.1, f.1.2)))
        (same_or f.0 j)

    joined' : (x : ℕ) → 0 < get_or a' x 0 → (p : ℕ) × (IsNode t n p × (p < b + 1) × (prev_at t x ≡ p + 1) × (next_at t p ≡ x + 1) × (get_or a' x 0 ≡ 1) × IsNode t n x)
    joined' x m =
        ⊎_elim
        (λ q. subst (λ (y : ℕ). (p : ℕ) × (IsNode t n p × (p < b + 1) × (prev_at t y ≡ p + 1) × (next_at t p ≡ y + 1) × (get_or a' y 0 ≡ 1) × IsNode t n y)) (sym q) (b, (nb, omega arith, pr, e, a_j, nj)))
        (λ q.
        let f = st.joined x (omega (arith, a_else x q)) in
        (f.0, (f.1.0, omega (arith, f.1.1), f.1.2, f.1.3, a_one x f.1.4, f.1.5)))
        (same_or x j)

    forth' : (i m : ℕ) → IsNode t n i → i < b + 1 → next_at t i ≡ m + 1 → IsNode t n m × (prev_at t m ≡ i + 1) × (get_or a' m 0 ≡ 1)
    forth' i m d l r =
        ⊎_elim
        (λ q.
        let o : m ≡ j = omega (arith, ap (next_at t) q) in
        subst (λ (y : ℕ). IsNode t n y × (prev_at t y ≡ i + 1) × (get_or a' y 0 ≡ 1)) (sym o) (nj, omega arith, a_j))
        (λ q. let f = st.forth i m d (below q) r in (f.0, f.1, a_one m f.2))
        (same_or i b)
      where
        below : (i ≡ b → ⊥) → i < b
        below q = ⊎_elim (λ s. absurd (q s)) (λ s. s) (eq-or-lt_of_le (omega arith))

    mark' : (x : ℕ) → IsNode t n x → 0 < get_or w' x 0
    mark' x i =
        ⊎_elim
        (λ q. subst (λ (y : ℕ). 0 < get_or w' y 0) (sym q) (omega (arith, w_z)))
        (λ q.
        ⊎_elim
        (λ r. subst (λ (y : ℕ). 0 < get_or w' y 0) (sym r) (omega (arith, w_h)))
        (λ r. omega (arith, w_else x r q, st.mark x i))
        (same_or x h))
        (same_or x z)

    node' : (x : ℕ) → 0 < get_or w' x 0 → IsNode t n x
    node' x m =
        ⊎_elim
        (λ q. subst (IsNode t n) (sym q) tail_z.0)
        (λ q. ⊎_elim (λ r. subst (IsNode t n) (sym r) frag_i.node) (λ r. st.node x (omega (arith, w_else x r q))) (same_or x h))
        (same_or x z)

    pub joined_state : State t n (b + 1) (set (set w h A) z B) (k + 1)
    unfolding w' a' g'
    joined_state =
        record {
          g = g';
          a = a';
          long = length-set (set w h A) z B ∙ length-set w h A ∙ st.long;
          long_a = length-set st.a j 1 ∙ st.long_a;
          long_g = length-set (set st.g b 0) z (get_or st.g b 0 + get_or st.g z 0) ∙ length-set st.g b 0 ∙ st.long_g;
          whole =
              omega (arith, total_set (set st.g b 0) z (get_or st.g b 0 + get_or st.g z 0) (omega (arith, z_in, st.long_g, length-set st.g b 0)), total_set st.g b 0 (omega (arith, nb.1, st.long_g)), other st.g b 0 z (λ q. b_z (sym q)), st.whole);
          joins = omega (arith, total_in st.a j 1 (omega (arith, nj.1, st.long_a)) j_free, st.joins);
          mark = mark';
          node = node';
          tail = tail';
          head = head';
          reach = reach';
          joined = joined';
          forth = forth';
        }
