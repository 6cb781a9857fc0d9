-- The walk along the links from one entry: the way that is gone along stands in the marks, each entry with the one before it.
use mathlib.Core.Path.{◌≡◌, refl, sym, ap, ◌∙◌, subst, subst⁻¹}
use mathlib.Core.List.{List, [], ◌∷◌}
use mathlib.Core.Logic.{◌⊎◌, inl, inr, ⊎_elim, ◌≢◌}
use mathlib.Core.Bool.{true, false, false≢true}
use Prim.Native.Nat.{ℕ, zero, suc, ◌+◌, ◌-◌, ◌≤◌, ◌<◌}
use native.Mathlib.Omega.{arith}
use lib.Dec.{eqb}
use lib.ListN.{length, get_or, set, length-set}
use lib.Seq.{get_or-set_same, get_or-set_other}
use Rattle.links.specs.Links.{◌∈◌}
use Rattle.links.specs.Change.{pick}
use Rattle.links.proofs.Laws.{by_eq}
use Rattle.links.proofs.Held.{same_or}
use Rattle.tree_table.specs.Field.{field}
use Rattle.tree_marks.specs.Inner.Marks.{mark_of}
use Rattle.tree_promises.specs.Inner.Ready.{LiveAt}
use Rattle.tree_aged.specs.Age.{Names, Newer, one, Lost}
use Rattle.tree_aged.specs.Inner.Walk.{ended, coll_of, next_of, Ends, ends, Fits, At, Open, Known, Walked}
use Rattle.tree_aged.proofs.Circles.{newer_on}

-- ---- how much is left to do: two for an entry that was not met, one for an entry on the way

unfoldable pub weight : ℕ → ℕ
weight zero = 2
weight (suc m) = pick (eqb m 65537) 0 1

abbrev pub left : List ℕ → ℕ
left [] = 0
left (x ∷ xs) = weight x + left xs

weight_way : (m : ℕ) → 0 < m → m < 65538 → weight m ≡ 1
unfolding weight
weight_way zero p h = absurd (omega arith)
weight_way (suc m) p h = by_eq m 65537 (λ t. ◌≡◌ {A = ℕ} (pick t 0 1) 1) (λ e. absurd (omega arith)) (λ n. refl)

weight_new : weight 0 ≡ 2
unfolding weight
weight_new = refl

weight_ended : weight 65538 ≡ 0
unfolding weight
weight_ended = refl

left_set : (l : List ℕ) (i m : ℕ) → i < length l → weight m < weight (get_or l i 0) → left (set l i m) < left l
left_set [] i m h k = absurd (omega arith)
left_set (x ∷ xs) zero m h k = omega arith
left_set (x ∷ xs) (suc i) m h k = let r : left (set xs i m) < left xs = left_set xs i m (omega arith) k in omega arith

-- ---- the way: x is the entry at hand, then the one before it, and so on

pub data Path (w : ℕ) (t : List ℕ) (W : ℕ → ℕ) : ℕ → List ℕ → Type 0 where
  none : Path w t W 0 []
  on : (x p : ℕ) (ps : List ℕ) → LiveAt w t x → W x ≡ suc p → (0 < p → Names (coll_of w t) (next_of w t) p x) → (x ∈ ps → ⊥) → Path w t W p ps
      → Path w t W x (x ∷ ps)

pub record Top (w : ℕ) (t : List ℕ) (W : ℕ → ℕ) (x : ℕ) (ps : List ℕ) : Type 0 where
  pub back : ℕ
  pub rest : List ℕ
  pub all : ps ≡ x ∷ rest
  pub live : LiveAt w t x
  pub mark : W x ≡ suc back
  pub new : x ∈ rest → ⊥
  pub path : Path w t W back rest

module _ {w : ℕ} {t : List ℕ} where
  path_top : {W : ℕ → ℕ} {x : ℕ} {ps : List ℕ} → Path w t W x ps → x ≢ 0 → Top w t W x ps
  path_top none h = absurd (h refl)
  path_top (on x p ps l e n d r) h = record { back = p; rest = ps; all = refl; live = l; mark = e; new = d; path = r }

  path_below : {W : ℕ → ℕ} {x : ℕ} {ps : List ℕ} → Path w t W x ps → 1 ≤ field w t 0 1 → x < field w t 0 1
  path_below none h = omega arith
  path_below (on x p ps l e n d r) h = l.1

  -- the marks of the way
  path_mark : {W : ℕ → ℕ} {x : ℕ} {ps : List ℕ} → Path w t W x ps → 1 ≤ field w t 0 1 → (z : ℕ) → z ∈ ps → (0 < W z) × (W z ≤ field w t 0 1)
  path_mark {W = W} none h z x9 = elim x9 [ ]
  path_mark {W} (on x p ps l e n d r) h z (inl q) =
      let b : p < field w t 0 1 = path_below r h in
      subst⁻¹ (λ (v : ℕ). (0 < v) × (v ≤ field w t 0 1)) (ap W q ∙ e) (omega arith, omega arith)
  path_mark (on x p ps l e n d r) h z (inr m) = path_mark r h z m

  path_some : {W : ℕ → ℕ} {x : ℕ} {ps : List ℕ} → Path w t W x ps → (z : ℕ) → z ∈ ps → 0 < x
  path_some none z m = absurd m
  path_some (on x p ps l e n d r) z m = l.0

  -- what stands before the entry at hand is newer
  path_newer : {W : ℕ → ℕ} {x : ℕ} {ps : List ℕ} → Path w t W x ps → (z : ℕ) → z ∈ ps → (z ≡ x) ⊎ Newer (coll_of w t) (next_of w t) z x
  path_newer none z m = absurd m
  path_newer (on x p ps l e n d r) z (inl q) = inl q
  path_newer (on x p ps l e n d r) z (inr m) =
      let k = n (path_some r z m) in
      inr
      (⊎_elim (λ q. one z x (subst⁻¹ (λ v. Names (coll_of w t) (next_of w t) v x) q k)) (λ (q : Newer (coll_of w t) (next_of w t) z p). newer_on q k)
      (path_newer r z m))

  -- another mark at a place beside the way
  path_other : {W W' : ℕ → ℕ} {x : ℕ} {ps : List ℕ} → Path w t W x ps → (z : ℕ) → (z ∈ ps → ⊥) → ((y : ℕ) → y ≢ z → W' y ≡ W y) → Path w t W' x ps
  path_other none z m f = none
  path_other (on x p ps l e n d r) z m f = on x p ps l (f x (λ q. m (inl (sym q))) ∙ e) n d (path_other r z (λ k. m (inr k)) f)

-- ---- the loop

pub record Going (w : ℕ) (t : List ℕ) (y : ℕ) (work₀ work : List ℕ) (x : ℕ) : Type 0 where
  pub long : length work ≡ length work₀
  pub small : x < 65536
  pub fits : Fits w t work
  pub ps : List ℕ
  pub path : Path w t (mark_of work) x ps
  pub at : (z : ℕ) → LiveAt w t z → (mark_of work z ≡ 0) ⊎ (((mark_of work z ≡ ended) × Ends (coll_of w t) (next_of w t) z) ⊎ (z ∈ ps))
  pub live : (z : ℕ) → 0 < z → z < field w t 0 1 → mark_of work z ≡ 0 → LiveAt w t z
  pub leads : (z : ℕ) → z ∈ ps → (y ≡ z) ⊎ Newer (coll_of w t) (next_of w t) y z
  pub seen : mark_of work y ≡ 0 → ⊥

pub fits_long : {w : ℕ} {t work work' : List ℕ} → Fits w t work → length work' ≡ length work → Fits w t work'
fits_long {w} {t} F e = record {
  wide = F.wide;
  some = F.some;
  few = F.few;
  inside = F.inside;
  room = subst⁻¹ (λ (n : ℕ). field w t 0 1 ≤ n) e F.room;
  coll = F.coll;
  next = F.next;
}

pub place_in : {w : ℕ} {t work : List ℕ} {x : ℕ} → At w t work x → x < length work
place_in {w} {t} {work} {x} A = let i : x < field w t 0 1 = A.live.1 in let r : field w t 0 1 ≤ length work = A.fits.room in omega arith

begin_place : {w : ℕ} {t work : List ℕ} {x : ℕ} (i : ℕ) → At w t work x → i ≡ x → i < length work
begin_place {work = work} i A e = subst⁻¹ (λ (v : ℕ). v < length work) e (place_in A)

small_at : {w : ℕ} {t work : List ℕ} {x : ℕ} → At w t work x → x < 65536
small_at {w} {t} {work} {x} A = let i : x < field w t 0 1 = A.live.1 in let r : field w t 0 1 ≤ 65536 = A.fits.few in omega arith

module _ (w : ℕ) (t work : List ℕ) (y : ℕ) where
  begin : At w t work y → Known w t work → mark_of work y ≡ 0 → Going w t y (set work y 1) (set work y 1) y
  begin A K e =
      let h : y < length work = place_in A in
      let same : mark_of (set work y 1) y ≡ 1 = get_or-set_same work y 1 0 h in
      let other : (z : ℕ) → z ≢ y → mark_of (set work y 1) z ≡ mark_of work z = λ z n. get_or-set_other work y z 1 0 n in
      record {
        long = refl;
        small = small_at A;
        fits = fits_long A.fits (length-set work y 1);
        ps = y ∷ [];
        path = on y 0 [] A.live same (λ p. absurd (omega arith)) (λ m. m) none;
        at = λ z l.
            ⊎_elim (λ (q : z ≡ y). inr (inr (inl q)))
            (λ (n : z ≢ y).
            ⊎_elim (λ k. inl (other z n ∙ k)) (λ k. inr (inl (other z n ∙ k.0, k.1))) (K.at z l))
            (same_or z y);
        live = λ z p b k.
            ⊎_elim (λ (q : z ≡ y). subst⁻¹ (λ v. LiveAt w t v) q A.live) (λ (n : z ≢ y). K.live z p b (sym (other z n) ∙ k)) (same_or z y);
        leads = λ z m. ⊎_elim (λ q. inl (sym q)) (λ v. absurd v) m;
        seen = λ k. omega (arith, same, k);
      }

  pub going_begin : (i : ℕ) → At w t work y → Known w t work → mark_of work y ≡ 0 → i ≡ y → Going w t y (set work i 1) (set work i 1) y
  going_begin i A K e q = subst⁻¹ (λ (v : ℕ). Going w t y (set work v 1) (set work v 1) y) q (begin A K e)

module _ {w : ℕ} {t : List ℕ} {y : ℕ} {work₀ work : List ℕ} {x : ℕ} (G : Going w t y work₀ work x) where
  top : x ≢ 0 → Top w t (mark_of work) x G.ps
  top h = path_top G.path h

  pub going_at : x ≢ 0 → At w t work x
  going_at h = record { fits = G.fits; live = (top h).live }

  marked : (z : ℕ) → z ∈ G.ps → (0 < mark_of work z) × (mark_of work z ≤ 65536)
  marked z m =
      let q = path_mark G.path G.fits.some z m in let f : field w t 0 1 ≤ 65536 = G.fits.few in (q.0, omega (arith, q.1))

  own : x ≢ 0 → x ∈ G.ps
  own h = subst⁻¹ (λ (l : List ℕ). x ∈ l) (top h).all (inl refl)

  pub going_marked : (i : ℕ) → x ≢ 0 → i ≡ x → (0 < get_or work i 0) × (get_or work i 0 ≤ 65536)
  going_marked i h e = subst⁻¹ (λ (v : ℕ). (0 < get_or work v 0) × (get_or work v 0 ≤ 65536)) e (marked x (own h))

  pub going_place : (i : ℕ) → x ≢ 0 → i ≡ x → i < length work
  going_place i h e = begin_place i (going_at h) e

  pub going_some : (i : ℕ) → x ≢ 0 → i ≡ x → 1 ≤ get_or work i 0
  going_some i h e = (going_marked i h e).0

  -- an entry that has the mark ends
  known : (z : ℕ) → LiveAt w t z → mark_of work z ≡ ended → Ends (coll_of w t) (next_of w t) z
  known z l e =
      ⊎_elim (λ (k : mark_of work z ≡ 0). absurd (omega (arith, k, e)))
      (λ r. ⊎_elim (λ k. k.1) (λ (m : z ∈ G.ps). absurd (omega (arith, (marked z m).1, e))) r)
      (G.at z l)

  -- ---- back: no link is open

  module _ (h : x ≢ 0) (O : Open w t work x 0) where
    abbrev T : Top w t (mark_of work) x G.ps
    T = top h

    here : x < length work
    here = place_in (going_at h)

    now_ends : Ends (coll_of w t) (next_of w t) x
    now_ends =
        ends x (λ p. known (field w t x 0) (G.fits.coll x T.live p) ((O.none refl).0 p))
        (λ p. known (field w t x 6) (G.fits.next x T.live p) ((O.none refl).1 p))

    in_rest : (z : ℕ) → z ∈ G.ps → z ≢ x → z ∈ T.rest
    in_rest z m n = ⊎_elim (λ q. absurd (n q)) (λ k. k) (subst (λ (l : List ℕ). z ∈ l) T.all m)

    rest_in : (z : ℕ) → z ∈ T.rest → z ∈ G.ps
    rest_in z m = subst⁻¹ (λ (l : List ℕ). z ∈ l) T.all (inr m)

    same : mark_of (set work x 65538) x ≡ 65538
    same = get_or-set_same work x 65538 0 here

    other : (z : ℕ) → z ≢ x → mark_of (set work x 65538) z ≡ mark_of work z
    other z n = get_or-set_other work x z 65538 0 n

    back : Going w t y work₀ (set work x 65538) T.back
    back = record {
      long = length-set work x 65538 ∙ G.long;
      small = (let b : T.back < field w t 0 1 = path_below T.path G.fits.some in let f : field w t 0 1 ≤ 65536 = G.fits.few in omega arith);
      fits = fits_long G.fits (length-set work x 65538);
      ps = T.rest;
      path = path_other T.path x T.new other;
      at = λ z l.
          ⊎_elim (λ (q : z ≡ x). inr (inl (ap (mark_of (set work x 65538)) q ∙ same, subst⁻¹ (λ v. Ends (coll_of w t) (next_of w t) v) q now_ends)))
          (λ (n : z ≢ x).
          ⊎_elim (λ k. inl (other z n ∙ k)) (λ r. ⊎_elim (λ k. inr (inl (other z n ∙ k.0, k.1))) (λ m. inr (inr (in_rest z m n))) r) (G.at z l))
          (same_or z x);
      live = λ z p b k.
          ⊎_elim (λ (q : z ≡ x). subst⁻¹ (λ v. LiveAt w t v) q T.live) (λ (n : z ≢ x). G.live z p b (sym (other z n) ∙ k)) (same_or z x);
      leads = λ z m. G.leads z (rest_in z m);
      seen = λ k.
          ⊎_elim (λ (q : y ≡ x). omega (arith, ap (mark_of (set work x 65538)) q, same, k)) (λ (n : y ≢ x). G.seen (sym (other y n) ∙ k)) (same_or y x);
    }

  pub going_back : (i p r : ℕ) → x ≢ 0 → Open w t work x r → r ≡ 0 → i ≡ x → p ≡ get_or work i 0 - 1 → Going w t y work₀ (set work i 65538) p
  going_back i p r h O z e q =
      let o : Open w t work x 0 = subst (λ (v : ℕ). Open w t work x v) z O in
      let m : mark_of work x ≡ suc (top h).back = (top h).mark in
      let b : p ≡ (top h).back = omega (arith, q, ap (λ (v : ℕ). get_or work v 0) e, m) in
      subst⁻¹ (λ (v : ℕ). Going w t y work₀ (set work v 65538) p) e (subst⁻¹ (λ (v : ℕ). Going w t y work₀ (set work x 65538) v) b (back h o))

  pub back_less : (i : ℕ) → x ≢ 0 → i ≡ x → left (set work i 65538) < left work
  back_less i h e =
      let g = going_marked i h e in
      let l : x < length work = place_in (going_at h) in
      left_set work i 65538 (omega (arith, e, l)) (omega (arith, weight_ended, weight_way (get_or work i 0) g.0 (omega (arith, g.1))))

  -- ---- on: a link is open

  module _ (h : x ≢ 0) (z : ℕ) (O : Open w t work x z) (hz : z ≢ 0) where
    named : Names (coll_of w t) (next_of w t) x z
    named = (O.some hz).0

    live_on : LiveAt w t z
    live_on = go named
      where
        go : Names (coll_of w t) (next_of w t) x z → LiveAt w t z
        go (p, inl e) = subst (λ v. LiveAt w t v) e (G.fits.coll x (top h).live (subst⁻¹ (λ (v : ℕ). 0 < v) e p))
        go (p, inr e) = subst (λ v. LiveAt w t v) e (G.fits.next x (top h).live (subst⁻¹ (λ (v : ℕ). 0 < v) e p))

    pub on_at : At w t work z
    on_at = record { fits = G.fits; live = live_on }

    -- to an entry on the way: a circle
    met : mark_of work z ≢ 0 → Lost (coll_of w t) (next_of w t) y
    met n =
        let m : z ∈ G.ps =
        ⊎_elim (λ k. absurd (n k)) (λ r. ⊎_elim (λ k. absurd ((O.some hz).1 k.0)) (λ k. k) r) (G.at z live_on)
        in record {
          entry = z;
          leads = G.leads z m;
          circle = ⊎_elim (λ q. one z z (subst⁻¹ (λ v. Names (coll_of w t) (next_of w t) v z) q named)) (λ k. newer_on k named) (path_newer G.path z m);
        }

    module _ (free : mark_of work z ≡ 0) where
      there : z < length work
      there = place_in on_at

      same_on : mark_of (set work z (suc x)) z ≡ suc x
      same_on = get_or-set_same work z (suc x) 0 there

      other_on : (v : ℕ) → v ≢ z → mark_of (set work z (suc x)) v ≡ mark_of work v
      other_on v n = get_or-set_other work z v (suc x) 0 n

      beside : z ∈ G.ps → ⊥
      beside m = let k : 0 < mark_of work z = (marked z m).0 in omega (arith, k, free)

      forth : Going w t y work₀ (set work z (suc x)) z
      forth = record {
        long = length-set work z (suc x) ∙ G.long;
        small = small_at on_at;
        fits = fits_long G.fits (length-set work z (suc x));
        ps = z ∷ G.ps;
        path = on z x G.ps live_on same_on (λ _. named) beside (path_other G.path z beside other_on);
        at = λ v l.
            ⊎_elim (λ (q : v ≡ z). inr (inr (inl q)))
            (λ (n : v ≢ z).
            ⊎_elim (λ k. inl (other_on v n ∙ k)) (λ r. ⊎_elim (λ k. inr (inl (other_on v n ∙ k.0, k.1))) (λ m. inr (inr (inr m))) r) (G.at v l))
            (same_or v z);
        live = λ v p b k.
            ⊎_elim (λ (q : v ≡ z). subst⁻¹ (λ u. LiveAt w t u) q live_on) (λ (n : v ≢ z). G.live v p b (sym (other_on v n) ∙ k)) (same_or v z);
        leads = λ v m.
            ⊎_elim
            (λ (q : v ≡ z).
            subst⁻¹ (λ u. (y ≡ u) ⊎ Newer (coll_of w t) (next_of w t) y u) q
            (inr (⊎_elim (λ (e : y ≡ x). one y z (subst⁻¹ (λ u. Names (coll_of w t) (next_of w t) u z) e named)) (λ k. newer_on k named) (G.leads x (own h)))))
            (λ k. G.leads v k)
            m;
        seen = λ k.
            ⊎_elim (λ (q : y ≡ z). G.seen (ap (mark_of work) q ∙ free)) (λ (n : y ≢ z). G.seen (sym (other_on y n) ∙ k)) (same_or y z);
      }

  pub going_on : (j z : ℕ) → x ≢ 0 → Open w t work x z → z ≢ 0 → j ≡ z → get_or work j 0 ≡ 0 → Going w t y work₀ (set work j (x + 1)) z
  going_on j z h O hz e f =
      let k : suc x ≡ x + 1 = omega arith in
      subst (λ (v : ℕ). Going w t y work₀ (set work j v) z) k
      (subst⁻¹ (λ (v : ℕ). Going w t y work₀ (set work v (suc x)) z) e (forth h z O hz (subst (λ (v : ℕ). get_or work v 0 ≡ 0) e f)))

  pub on_place : (j z : ℕ) → x ≢ 0 → Open w t work x z → z ≢ 0 → j ≡ z → j < length work
  on_place j z h O hz e = subst⁻¹ (λ (v : ℕ). v < length work) e (place_in (on_at h z O hz))

  pub on_less : (j z : ℕ) → x ≢ 0 → Open w t work x z → z ≢ 0 → j ≡ z → get_or work j 0 ≡ 0 → left (set work j (x + 1)) < left work
  on_less j z h O hz e f =
      left_set work j (x + 1) (on_place j z h O hz e)
      (omega (arith, weight_way (x + 1) (omega arith) (omega (arith, G.small)), ap weight f, weight_new))

  pub going_met : (j z : ℕ) → x ≢ 0 → Open w t work x z → z ≢ 0 → j ≡ z → (get_or work j 0 ≡ 0 → ⊥) → Walked w t y work false
  going_met j z h O hz e f = record {
    good = λ q. absurd (false≢true q);
    bad = λ _. met h z O hz (λ k. f (ap (λ (v : ℕ). get_or work v 0) e ∙ k));
  }

  pub going_end : x ≡ 0 → Walked w t y work true
  going_end e = record {
    good = λ _. record {
      fits = G.fits;
      known = record {
        at = λ z l. ⊎_elim (λ k. inl k) (λ r. ⊎_elim (λ k. inr k) (λ (m : z ∈ G.ps). absurd (omega (arith, path_some G.path z m, e))) r) (G.at z l);
        live = G.live;
      };
      seen = G.seen;
    };
    bad = λ q. absurd (false≢true (sym q));
  }
