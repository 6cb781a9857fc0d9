-- The first pass, the counts, and the verdict.
use mathlib.Core.Path.{◌≡◌, refl, sym, ap, subst, subst⁻¹, ◌∙◌}
use mathlib.Core.List.{List}
use mathlib.Core.Logic.{◌⊎◌, inl, inr, ⊎_elim}
use Prim.Native.Nat.{ℕ, zero, suc, ◌+◌, ◌-◌, ◌/◌, ◌%◌, ◌<◌, ◌≤◌}
use native.Mathlib.Nat.{eq-or-lt_of_le}
use native.Mathlib.Omega.{arith}
use lib.ListN.{length, get_or, set, replicate, length-set, length-replicate}
use lib.Seq.{get_or-set_same}
use Rattle.fat_node.specs.Entry.{top, u_at, v_at}
use Rattle.fat_node.specs.Node.{prev_at, next_at, NodeAt}
use Rattle.fat_node.proofs.Nodes.{le_or_lt}
use Rattle.links.proofs.Held.{same_or}
use Rattle.fat_table.specs.Sound.{IsNode, Covered, Sound, Along, Counted, File}
use Rattle.fat_ends.specs.Inner.Marks.{HeadFits}
use Rattle.fat_ends.specs.Inner.Ends.{span, Packed, Fresh, State, Backs, Tile}
use Rattle.fat_ends.specs.Inner.Ends.Packed.{small, one}
use Rattle.fat_ends.proofs.Laws.{none_or_some, total_in, total_zeros, zeros_at, Tiling, tiling_none, tiling_more, tiled, covered}
use Rattle.fat_ends.proofs.Fragments.{other, gap, begin_state}
use Rattle.fat_ends.proofs.Joins.{shift, counts_agree, ends_sound, free_frag, free_fits, free_along}

-- ---- the tiling
tiling_fresh : {t : List ℕ} {n b : ℕ} {g w : List ℕ} (s r p : ℕ) → Tiling t n g b → Fresh t n g w → length w ≡ n → b < n → NodeAt t n b s → (s < 2048 → p ≡ s) × (2048 ≤ s → p ≡ 2048) × (p < 4096) → (r % span ≡ b + 1) × (r / span ≡ p) → Fresh t n (set g b s) (set w b r)
tiling_fresh {t} {n} {b} {g} {w} s r p k f l h nd pa pk =
    record {
      none = λ x z. ⊎_elim (λ e. absurd (omega (arith, g_b, nd.some, ap (λ (y : ℕ). get_or (set g b s) y 0) e))) (λ e. other w b r x e ∙ f.none x (sym (other g b s x e) ∙ z)) (same_or x b);
      end = λ x m. ⊎_elim (λ e. subst⁻¹ (λ (y : ℕ). get_or (set w b r) y 0 % span ≡ y + 1) e (omega (arith, w_b))) (λ e. ap (λ (y : ℕ). y % span) (other w b r x e) ∙ f.end x (omega (arith, other g b s x e))) (same_or x b);
      part =
          λ x m.
          ⊎_elim
          (λ e. subst⁻¹ (λ (y : ℕ). Packed t n y y (get_or (set w b r) y 0 / span) (get_or (set w b r) y 0 / span) (get_or (set g b s) y 0)) e here_part)
          (λ e.
          subst⁻¹ (λ (y : ℕ). Packed t n x x (y / span) (y / span) (get_or (set g b s) x 0)) (other w b r x e)
          (subst⁻¹ (λ (y : ℕ). Packed t n x x (get_or w x 0 / span) (get_or w x 0 / span) y) (other g b s x e) (f.part x (omega (arith, other g b s x e)))))
          (same_or x b);
    }
  where
    g_b : get_or (set g b s) b 0 ≡ s
    g_b = get_or-set_same g b s 0 (omega (arith, k.long))

    w_b : get_or (set w b r) b 0 ≡ r
    w_b = get_or-set_same w b r 0 (omega arith)

    q_b : get_or (set w b r) b 0 / span ≡ p
    q_b = ap (λ (y : ℕ). y / span) w_b ∙ pk.1

    here_part : Packed t n b b (get_or (set w b r) b 0 / span) (get_or (set w b r) b 0 / span) (get_or (set g b s) b 0)
    here_part =
        subst⁻¹ (λ (y : ℕ). Packed t n b b y y (get_or (set g b s) b 0)) q_b
        (subst⁻¹ (λ (y : ℕ). Packed t n b b p p y) g_b
        (⊎_elim (λ m. one refl (omega (arith, pa.1 m)) (omega (arith, pa.1 m)) nd) (λ m. small m (pa.0 m) (pa.0 m)) (le_or_lt 2048 s)))

abbrev pub Laid : List ℕ → ℕ → List ℕ → ℕ → Type 0
Laid t n w b = (g : List ℕ) × (Tiling t n g b × Fresh t n g w × (length w ≡ n))

pub laid_none : (t : List ℕ) (n : ℕ) (w : List ℕ) → length w ≡ n → w ≡ replicate n 0 → Laid t n w 0
laid_none t n w l e =
    let z : (i : ℕ) → get_or w i 0 ≡ 0 = λ i. ap (λ (k : List ℕ). get_or k i 0) e ∙ zeros_at n i in (
      w,
      (
        tiling_none t n w l e,
        record { none = λ x q. q; end = λ x m. absurd (omega (arith, z x)); part = λ x m. absurd (omega (arith, z x)) },
        l,
      ),
    )

pub laid_more : {t : List ℕ} {n b : ℕ} {w : List ℕ} (s r p : ℕ) → Laid t n w b → b < n → NodeAt t n b s → (s < 2048 → p ≡ s) × (2048 ≤ s → p ≡ 2048) × (p < 4096) → (r % span ≡ b + 1) × (r / span ≡ p) → Laid t n (set w b r) (b + s)
laid_more {t} {n} {b} {w} s r p k h nd pa pk =
    (set k.0 b s, (tiling_more t n k.0 b s k.1.0 h nd, tiling_fresh s r p k.1.0 k.1.1 k.1.2 h nd pa pk, length-set w b r ∙ k.1.2))

pub laid_all : {t : List ℕ} {n b : ℕ} {w : List ℕ} → Laid t n w b → b ≡ n → 0 < n → Tile t n w
laid_all {t} {n} {b} {w} k e p =
    let f : Tiling t n k.0 n = subst (Tiling t n k.0) e k.1.0 in
    (k.0, (tiled t n k.0 f p, k.1.1, f.long))

-- ---- the counts
pub no_backs : (t : List ℕ) (n : ℕ) → Backs t n 0 0
no_backs t n =
    record {
      c = replicate n 0;
      long = length-replicate n 0;
      count = total_zeros n;
      yes = λ x i l. absurd (omega arith);
      only = λ x m. absurd (omega (arith, zeros_at n x));
    }

module _ {t : List ℕ} {n b s : ℕ} (nb : IsNode t n b) (nd : NodeAt t n b s) where
  inner : (x : ℕ) → IsNode t n x → x < b + s → (x ≡ b → ⊥) → x < b
  inner x i l f =
      ⊎_elim
      (λ q. ⊎_elim (λ e. absurd (f (sym e))) (λ m. absurd (omega (arith, gap t n b s x nb.0 nd i.0 m))) (eq-or-lt_of_le q))
      (λ q. q)
      (le_or_lt b x)

  pub backs_more : {k r : ℕ} → Backs t n b k → ((prev_at t b ≡ 0) × (r ≡ 0)) ⊎ ((0 < prev_at t b) × (r ≡ 1)) → Backs t n (b + s) (k + r)
  backs_more {k} {r} bs d = ⊎_elim (λ q. without q) (λ q. within q) d
    where
      without : (prev_at t b ≡ 0) × (r ≡ 0) → Backs t n (b + s) (k + r)
      without q =
          record {
            c = bs.c;
            long = bs.long;
            count = omega (arith, bs.count);
            yes = λ x i l m. bs.yes x i (inner x i l (λ e. omega (arith, ap (prev_at t) e))) m;
            only = λ x m. let f = bs.only x m in (f.0, omega (arith, f.1), f.2, f.3);
          }

      bare : get_or bs.c b 0 ≡ 0
      bare = ⊎_elim (λ z. z) (λ m. absurd (omega (arith, (bs.only b m).1))) (none_or_some (get_or bs.c b 0))

      in_c : b < length bs.c
      in_c = omega (arith, bs.long, nb.1)

      within : (0 < prev_at t b) × (r ≡ 1) → Backs t n (b + s) (k + r)
      within q =
          record {
            c = set bs.c b 1;
            long = length-set bs.c b 1 ∙ bs.long;
            count = omega (arith, total_in bs.c b 1 in_c bare, bs.count);
            yes =
                λ x i l m.
                ⊎_elim
                (λ e. subst⁻¹ (λ (y : ℕ). get_or (set bs.c b 1) y 0 ≡ 1) e (get_or-set_same bs.c b 1 0 in_c))
                (λ e. other bs.c b 1 x e ∙ bs.yes x i (inner x i l e) m)
                (same_or x b);
            only =
                λ x m.
                ⊎_elim
                (λ e. subst⁻¹ (λ (y : ℕ). IsNode t n y × (y < b + s) × (0 < prev_at t y) × (get_or (set bs.c b 1) y 0 ≡ 1)) e (nb, omega (arith, nd.some), q.0, get_or-set_same bs.c b 1 0 in_c))
                (λ e. let f = bs.only x (omega (arith, other bs.c b 1 x e)) in (f.0, omega (arith, f.1), f.2, other bs.c b 1 x e ∙ f.3))
                (same_or x b);
          }

  over : {k : ℕ} (m : ℕ) → m < s → Counted (File t n) (b + 1) k → Counted (File t n) (b + 1 + m) k
  over {k} zero l p = subst (λ (y : ℕ). Counted (File t n) y k) (omega arith) p
  over {k} (suc m) l p =
      subst (λ (y : ℕ). Counted (File t n) y k) (omega arith)
      (Counted.skip (over m (omega arith) p) (λ f. omega (arith, gap t n b s (b + 1 + m) nb.0 nd f.0.0 (omega arith))))

  pub count_more : {k r : ℕ} → Counted (File t n) b k → ((prev_at t b ≡ 0) × (v_at t 0 ≡ b + 1 → ⊥) × (r ≡ 1)) ⊎ ((prev_at t b ≡ 0 → v_at t 0 ≡ b + 1) × (r ≡ 0)) → Counted (File t n) (b + s) (k + r)
  count_more {k} {r} p d =
      subst (λ (y : ℕ). Counted (File t n) y (k + r)) (omega (arith, nd.some)) (over (s - 1) (omega (arith, nd.some)) here_too)
    where
      here_too : Counted (File t n) (b + 1) (k + r)
      here_too =
          ⊎_elim
          (λ q. subst⁻¹ (λ (y : ℕ). Counted (File t n) (b + 1) (k + y)) q.2 (Counted.one p (nb, q.0, q.1)))
          (λ q. subst (Counted (File t n) (b + 1)) (omega arith) (Counted.skip p (λ f. f.2 (q.0 f.1))))
          d

-- ---- as the code has it
pub link_none : {t : List ℕ} {n b : ℕ} {w : List ℕ} {k : ℕ} → next_at t b ≡ 0 → State t n b w k → State t n (b + 1) w (k + 0)
link_none {t} {n} {b} {w} {k} e st =
    subst (State t n (b + 1) w) (omega arith)
    (shift st (b + 1) (omega arith)
    (λ x i l. ⊎_elim (λ q. inr (subst (λ (y : ℕ). next_at t y ≡ 0) q e)) (λ m. inl (omega arith)) (eq-or-lt_of_le l)))

pub some_le : {p r : ℕ} → ((p ≡ 0) × (r ≡ 0)) ⊎ ((0 < p) × (r ≡ 1)) → r ≤ 1
some_le d = ⊎_elim (λ q. omega arith) (λ q. omega arith) d

pub file_le : {P Q R : Type 0} {r : ℕ} → (P × Q × (r ≡ 1)) ⊎ (R × (r ≡ 0)) → r ≤ 1
file_le d = ⊎_elim (λ q. omega arith) (λ q. omega arith) d

pub backs_on : {t : List ℕ} {n b s k r p : ℕ} → IsNode t n b → NodeAt t n b s → Backs t n b k → p ≡ prev_at t b → ((p ≡ 0) × (r ≡ 0)) ⊎ ((0 < p) × (r ≡ 1)) → Backs t n (b + s) (k + r)
backs_on {t} {n} {b} {s} {k} {r} nb nd bs e d = backs_more nb nd bs (subst (λ (y : ℕ). ((y ≡ 0) × (r ≡ 0)) ⊎ ((0 < y) × (r ≡ 1))) e d)

pub count_on : {t : List ℕ} {n b s k r p h : ℕ} → IsNode t n b → NodeAt t n b s → Counted (File t n) b k → p ≡ prev_at t b → h ≡ v_at t 0 → ((p ≡ 0) × (h ≡ b + 1 → ⊥) × (r ≡ 1)) ⊎ ((p ≡ 0 → h ≡ b + 1) × (r ≡ 0)) → Counted (File t n) (b + s) (k + r)
count_on {t} {n} {b} {s} {k} {r} {p} {h} nb nd ct e f d =
    count_more nb nd ct
    (subst (λ (y : ℕ). ((y ≡ 0) × (v_at t 0 ≡ b + 1 → ⊥) × (r ≡ 1)) ⊎ ((y ≡ 0 → v_at t 0 ≡ b + 1) × (r ≡ 0))) e
    (subst (λ (y : ℕ). ((p ≡ 0) × (y ≡ b + 1 → ⊥) × (r ≡ 1)) ⊎ ((p ≡ 0 → y ≡ b + 1) × (r ≡ 0))) f d))

pub state_long : {t : List ℕ} {n b : ℕ} {w : List ℕ} {k : ℕ} → State t n b w k → State t (length w) b w k
state_long {t} {n} {b} {w} {k} st = subst⁻¹ (λ (m : ℕ). State t m b w k) st.long st

pub linked_on : {t : List ℕ} {n b : ℕ} {w w' : List ℕ} {k m : ℕ} → State t n b w k → (State t (length w) b w k → State t (length w) (b + 1) w' m) → State t n (b + 1) w' m
linked_on {t} {n} {b} {w} {w'} {k} {m} st f = subst (λ (y : ℕ). State t y (b + 1) w' m) st.long (f (state_long st))

pub sound_long : {t : List ℕ} {n m : ℕ} → m ≡ n → Sound t n → Sound t m
sound_long {t} e s = subst⁻¹ (Sound t) e s

pub ends_count_n : {t : List ℕ} {n b : ℕ} {w : List ℕ} {k m : ℕ} → b ≡ n → State t n b w k → Backs t n n m → Sound t n → k ≡ m
ends_count_n {t} {n} {b} {w} {k} {m} e st bs s = counts_agree (subst (λ (y : ℕ). State t n y w k) e st) bs s

pub ends_agree_n : {t : List ℕ} {n b : ℕ} {w : List ℕ} {k m : ℕ} → b ≡ n → State t n b w k → Backs t n n m → k ≡ m → (k : ℕ) × (State t n n w k × Backs t n n k)
ends_agree_n {t} {n} {b} {w} {k} {m} e st bs q = (k, (subst (λ (y : ℕ). State t n y w k) e st, subst⁻¹ (Backs t n n) q bs))

pub tiled_as : {t : List ℕ} {n b k f : ℕ} {w : List ℕ} → Laid t n w b → b ≡ n → 0 < n → Backs t n b k → Counted (File t n) b f → Tile t n w × Backs t n n k × Counted (File t n) n f
tiled_as {t} {n} {b} {k} {f} l e p bs ct = (laid_all l e p, subst (λ (y : ℕ). Backs t n y k) e bs, subst (λ (y : ℕ). Counted (File t n) y f) e ct)

pub backs_long : {t : List ℕ} {n m k : ℕ} → m ≡ n → Backs t n n k → Backs t m m k
backs_long {t} {n} {m} {k} e bs = subst⁻¹ (λ (y : ℕ). Backs t y y k) e bs

module _ {t : List ℕ} {n k : ℕ} {w : List ℕ} (st : State t n n w k) (f z : ℕ) (i : IsNode t n f) (e : prev_at t f ≡ 0) (q : get_or w f 0 % span ≡ z + 1) where
  free_at : (free_frag st f i e).0 ≡ z
  free_at = omega (arith, (free_frag st f i e).1.1.last)

  pub free_in : z < n
  free_in = omega (arith, free_at, (free_frag st f i e).1.0.0.1)

  pub free_sum : (s : ℕ) × (Packed t n f z (get_or w f 0 / span) (get_or w z 0 / span) s × (s ≤ n) × Along t n (f + 1) s)
  free_sum = (
    get_or st.g (free_frag st f i e).0 0,
    (
      subst (λ (y : ℕ). Packed t n f y (get_or w f 0 / span) (get_or w y 0 / span) (get_or st.g (free_frag st f i e).0 0)) free_at (free_frag st f i e).1.1.packed,
      free_fits st f i e,
      free_along st f i e,
    ),
  )

  pub free_done : (h r : ℕ) → h ≡ f + 1 → ((s : ℕ) → Packed t n f z (get_or w f 0 / span) (get_or w z 0 / span) s → r ≡ s) → Along t n h r × (r ≤ n)
  free_done h r p d =
      let e = d free_sum.0 free_sum.1.0 in
      (subst⁻¹ (λ (y : ℕ). Along t n y r) p (subst⁻¹ (Along t n (f + 1)) e free_sum.1.2), omega (arith, free_sum.1.1))

-- ---- the verdict
tile_state : {t : List ℕ} {n : ℕ} {w : List ℕ} → length w ≡ n → Tile t n w → State t n 0 w 0
tile_state {t} {n} {w} l k = begin_state t n w k.0 k.1.0 k.1.1 l k.1.2

pub tile_covered : {t : List ℕ} {n : ℕ} {w : List ℕ} → Tile t n w → Covered t n
tile_covered {t} {n} k = covered t n k.0 k.1.0

pub links_ready : {t : List ℕ} {n : ℕ} {w : List ℕ} → length w ≡ n → Tile t n w → Covered t (length w) × State t (length w) 0 w 0
links_ready {t} {n} {w} l k = subst⁻¹ (λ (m : ℕ). Covered t m × State t m 0 w 0) l (tile_covered k, tile_state l k)

pub head_is : {t : List ℕ} {n h : ℕ} {w : List ℕ} → length w ≡ n → Tile t n w → HeadFits t w h → (j : ℕ) → h ≡ j + 1 → IsNode t n j × (prev_at t j ≡ 0)
head_is l k f j e = ((tile_state l k).node j (f j e).0, (f j e).1)

pub head_fits : {t : List ℕ} {n h : ℕ} {w : List ℕ} → length w ≡ n → Tile t n w → h ≡ v_at t 0 → Sound t n → HeadFits t w h
head_fits l k e s j q = let f = s.free j (sym e ∙ q) in ((tile_state l k).mark j f.0, f.1)

pub free_ready : {t : List ℕ} {n m h : ℕ} {w : List ℕ} → m ≡ n → (k : ℕ) × (State t m m w k × Backs t m m k) → ((j : ℕ) → h ≡ j + 1 → IsNode t n j × (prev_at t j ≡ 0)) → (length w ≡ n) × (((k : ℕ) × State t (length w) (length w) w k) × ((j : ℕ) → h ≡ j + 1 → IsNode t (length w) j × (prev_at t j ≡ 0)))
free_ready {t} {n} {m} {h} {w} l k f =
    let e : length w ≡ n = k.1.0.long ∙ l in
    (e, ((k.0, subst⁻¹ (λ (y : ℕ). State t y y w k.0) k.1.0.long k.1.0), λ j q. subst⁻¹ (λ (y : ℕ). IsNode t y j × (prev_at t j ≡ 0)) e (f j q)))

pub all_good : {t : List ℕ} {n m h r files : ℕ} {w : List ℕ} → m ≡ n → ((k : ℕ) × (State t m m w k × Backs t m m k)) × Counted (File t m) m files → (u_at t 0 ≡ 0) × (v_at t 0 < top) → Covered t n → h ≡ v_at t 0 → ((j : ℕ) → h ≡ j + 1 → IsNode t n j × (prev_at t j ≡ 0)) → Along t (length w) h r × (r ≤ length w) → Sound t n × Along t n (v_at t 0) r × (r ≤ n) × Counted (File t n) n files
all_good {t} {n} {m} {h} {r} {files} {w} l k hd c e f al = (
  ends_sound (subst (λ (y : ℕ). State t y y w k.0.0) l k.0.1.0) (subst (λ (y : ℕ). Backs t y y k.0.0) l k.0.1.1) hd c (λ j q. f j (e ∙ q)),
  subst (λ (y : ℕ). Along t n y r) e (subst (λ (y : ℕ). Along t y h r) (k.0.1.0.long ∙ l) al.0),
  omega (arith, k.0.1.0.long, al.1),
  subst (λ (y : ℕ). Counted (File t y) y files) l k.1,
)
