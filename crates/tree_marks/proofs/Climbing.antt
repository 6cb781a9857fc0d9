-- Going up by the marks: laws.
use mathlib.Core.Path.{◌≡◌, refl, sym, ap, ◌∙◌, subst}
use mathlib.Core.List.{List, [], ◌∷◌, ◌++◌}
use mathlib.Core.Logic.{inl, inr, ⊎_elim, ◌≢◌}
use mathlib.Core.Bool.{Bool, true, false, false≢true}
use Prim.Native.Nat.{ℕ, zero, suc, ◌+◌, ◌≤◌, ◌<◌}
use native.Mathlib.Omega.{arith}
use lib.ListN.{length, get_or, set, length-set, length-append}
use lib.Seq.{get_or-set_same, get_or-set_other}
use Rattle.links.specs.Links.{◌∈◌, Links}
use Rattle.links.proofs.Laws.{one_list, fewer}
use Rattle.links.proofs.Held.{same_or}
use Rattle.links.proofs.Way.{Way, way_on, way_end, way_new, way_part, in_left, in_right}
use Rattle.order.specs.Tells.{Tells}
use Rattle.tree_marks.specs.Inner.Marks.{gone, mark_of, Within, Marked}
use Rattle.tree_table.specs.View.{Live, Reaches}
use Rattle.tree_marks.specs.Inner.Gather.{GoneMarked}
use Rattle.tree_marks.specs.Inner.Climb.{Tops, Flat, Rising, Risen, AllRisen}
use Rattle.tree_marks.proofs.Walks.{in_snoc, within_refl, within_trans}
use Rattle.tree_marks.proofs.Gathering.{in_or}

-- ---- the loop of climbs: n steps went by, and it stands at x

pub record Climbed (count : ℕ) (work : List ℕ) (y x n : ℕ) : Type 0 where
  pub ps : List ℕ
  pub way : Way (mark_of work) y ps x
  pub low : (z : ℕ) → z ∈ ps → z < count
  pub steps : n ≡ length ps
  pub most : n ≤ count

pub climb_begin : (count : ℕ) (work : List ℕ) (y : ℕ) → Climbed count work y y 0
climb_begin count work y = record { ps = []; way = refl; low = λ z m. absurd m; steps = refl; most = omega arith }

module _ {count : ℕ} {work : List ℕ} {y x n : ℕ} (C : Climbed count work y x n) where
  pub climb_on : (i m : ℕ) → i ≡ x → 0 < x → x < count → n < count → m ≡ get_or work i 0 → Climbed count work y m (n + 1)
  climb_on i m e hx hc hn em = record {
    ps = C.ps ++ x ∷ [];
    way = subst (λ z. Way (mark_of work) y (C.ps ++ x ∷ []) z) (ap (mark_of work) (sym e) ∙ sym em) (way_on (mark_of work) y C.ps x C.way hx);
    low = λ z k. ⊎_elim (λ (h : z ∈ C.ps). C.low z h) (λ (h : z ≡ x). omega arith) (in_snoc z x C.ps k);
    steps = let s = C.steps in omega (arith, length-append C.ps (x ∷ []));
    most = omega arith;
  }

  pub climb_end : x ≡ 0 → Tells (Tops count work y) true
  climb_end e = record {
    yes = λ _. (C.ps, way_end (mark_of work) y C.ps (subst (λ z. Way (mark_of work) y C.ps z) e C.way), C.low);
    only = λ _. refl;
  }

  pub climb_past : (x ≡ 0 → ⊥) → count ≤ x → Tells (Tops count work y) false
  climb_past hx h = record {
    yes = λ e. absurd (false≢true e);
    only = λ E. absurd (
        let r = way_new (mark_of work) y C.ps x E.0 C.way E.1 (omega arith) in
        let k : x < count = E.2 x r.0 in omega arith);
  }

  -- as many steps as there are entries, and not at the end
  pub climb_long : (x ≡ 0 → ⊥) → x < count → n ≡ count → Tells (Tops count work y) false
  climb_long hx hc h = record {
    yes = λ e. absurd (false≢true e);
    only = λ E. absurd (
        let q = way_part (mark_of work) y C.ps x E.0 C.way E.1 in
        let f : length E.0 < count = fewer (mark_of work) count y E.0 (omega arith) E.1 E.2 in
        let e : length E.0 ≡ length C.ps + length q.0 = ap length q.1 ∙ length-append C.ps q.0 in
        let s = C.steps in omega arith);
  }

-- ---- the loop of flatten

abbrev pub marks_left : List ℕ → ℕ
marks_left [] = 0
marks_left (zero ∷ xs) = marks_left xs
marks_left (suc x ∷ xs) = suc (marks_left xs)

pub left_set : (l : List ℕ) (i : ℕ) → (get_or l i 0 ≡ 0 → ⊥) → marks_left (set l i 0) < marks_left l
left_set [] i n = absurd (n refl)
left_set (zero ∷ xs) zero n = absurd (n refl)
left_set (suc x ∷ xs) zero n = omega arith
left_set (zero ∷ xs) (suc i) n = left_set xs i n
left_set (suc x ∷ xs) (suc i) n = let r : marks_left (set xs i 0) < marks_left xs = left_set xs i n in omega arith

pub record Flattening (count y : ℕ) (work₀ work : List ℕ) (x p : ℕ) : Type 0 where
  pub ps : List ℕ
  pub qs : List ℕ
  pub way : Way (mark_of work₀) y ps x
  pub rest : Links (mark_of work₀) x qs
  pub low : (z : ℕ) → z ∈ qs → z < count
  pub marks : Marked (mark_of work₀) (mark_of work) 0 ps
  pub here : p ≡ mark_of work x
  pub some : 0 < x
  pub fresh : x ∈ ps → ⊥
  pub within : Within 0 count work₀ work

first_is : (next : ℕ → ℕ) (x : ℕ) (qs : List ℕ) → 0 < x → Links next x qs → (rs : List ℕ) × (qs ≡ x ∷ rs) × Links next (next x) rs
first_is next x [] h l = absurd (omega arith)
first_is next x (a ∷ rs) h l = (rs, ap (λ z. z ∷ rs) (sym l.0), subst (λ z. Links next (next z) rs) (sym l.0) l.2)

pub flat_begin : {count y : ℕ} {work : List ℕ} (i p : ℕ) → 0 < y → Tops count work y → i ≡ y → p ≡ get_or work i 0 → Flattening count y work work y p
flat_begin {count} {y} {work} i p h E e ep = record {
  ps = [];
  qs = E.0;
  way = refl;
  rest = E.1;
  low = E.2;
  marks = record { marked = λ z m. absurd m; others = λ z m. refl };
  here = ep ∙ ap (mark_of work) e;
  some = h;
  fresh = λ m. m;
  within = within_refl 0 count work;
}

module _ {count y : ℕ} {work₀ work : List ℕ} {x p : ℕ} (F : Flattening count y work₀ work x p) where
  pub flat_low : x < count
  flat_low = let r = first_is (mark_of work₀) x F.qs F.some F.rest in F.low x (subst (λ l. x ∈ l) (sym r.1) (inl refl))

  was : mark_of work₀ x ≡ p
  was = sym (F.marks.others x F.fresh) ∙ sym F.here

  module _ (hp : p ≡ 0 → ⊥) (hl : count ≤ length work) where
    abbrev rs : List ℕ
    rs = (first_is (mark_of work₀) x F.qs F.some F.rest).0

    qs_is : F.qs ≡ x ∷ rs
    qs_is = (first_is (mark_of work₀) x F.qs F.some F.rest).1

    links_p : Links (mark_of work₀) p rs
    links_p = subst (λ z. Links (mark_of work₀) z rs) was (first_is (mark_of work₀) x F.qs F.some F.rest).2

    low_p : (z : ℕ) → z ∈ rs → z < count
    low_p z m = F.low z (subst (λ l. z ∈ l) (sym qs_is) (inr m))

    pub flat_next : p < count
    flat_next = let r = first_is (mark_of work₀) p rs (omega arith) links_p in low_p p (subst (λ l. p ∈ l) (sym r.1) (inl refl))

    whole : (ps : List ℕ) (h : ℕ) → Way (mark_of work₀) h ps x → Links (mark_of work₀) h (ps ++ F.qs)
    whole [] h w = subst (λ z. Links (mark_of work₀) z F.qs) (sym w) F.rest
    whole (a ∷ ps) h w = (w.0, w.1, whole ps (mark_of work₀ a) w.2)

    way_p : Way (mark_of work₀) y (F.ps ++ x ∷ []) p
    way_p = subst (λ z. Way (mark_of work₀) y (F.ps ++ x ∷ []) z) was (way_on (mark_of work₀) y F.ps x F.way F.some)

    pub flat_on : (i j q : ℕ) → i ≡ x → j ≡ p → q ≡ get_or (set work i 0) j 0 → Flattening count y work₀ (set work i 0) p q
    flat_on i j q ei ej eq = record {
      ps = F.ps ++ x ∷ [];
      qs = rs;
      way = way_p;
      rest = links_p;
      low = low_p;
      marks = record {
        marked = λ z m.
            ⊎_elim
            (λ (k : z ∈ F.ps). get_or-set_other work i z 0 0 (λ (e : z ≡ i). F.fresh (subst (λ u. u ∈ F.ps) (e ∙ ei) k)) ∙ F.marks.marked z k)
            (λ (k : z ≡ x). ap (λ u. get_or (set work i 0) u 0) (k ∙ sym ei) ∙ get_or-set_same work i 0 0 (let l = flat_low in omega arith))
            (in_snoc z x F.ps m);
        others = λ z m.
            get_or-set_other work i z 0 0 (λ (e : z ≡ i). m (in_right z F.ps (x ∷ []) (inl (e ∙ ei))))
            ∙ F.marks.others z (λ (k : z ∈ F.ps). m (in_left z F.ps (x ∷ []) k));
      };
      here = eq ∙ ap (λ u. get_or (set work i 0) u 0) ej;
      some = omega arith;
      fresh = (way_new (mark_of work₀) y (F.ps ++ x ∷ []) p (F.ps ++ F.qs) way_p (whole F.ps y F.way) (omega arith)).1;
      within = within_trans F.within (record {
        size = length-set work i 0;
        before = λ j k. absurd (omega arith);
        behind = λ j k. get_or-set_other work i j 0 0 (let l = flat_low in omega arith);
      });
    }

  -- at a mark 0 the whole list was passed
  pub flat_end : p ≡ 0 → Flat count y work₀ work
  flat_end e = record {
    marks = λ xs l.
        let q = way_part (mark_of work₀) y F.ps x xs F.way l in
        let r = first_is (mark_of work₀) x q.0 F.some q.2 in
        let n : r.0 ≡ [] = one_list (mark_of work₀) (mark_of work₀ x) 0 r.0 [] (was ∙ e) r.2 refl in
        let g : xs ≡ F.ps ++ x ∷ [] = q.1 ∙ ap (λ z. F.ps ++ z) (r.1 ∙ ap (λ z. x ∷ z) n) in
        subst (λ z. Marked (mark_of work₀) (mark_of work) 0 z) (sym g) (record {
          marked = λ z m.
              ⊎_elim (λ (k : z ∈ F.ps). F.marks.marked z k) (λ (k : z ≡ x). ap (mark_of work) k ∙ sym F.here ∙ e) (in_snoc z x F.ps m);
          others = λ z m. F.marks.others z (λ (k : z ∈ F.ps). m (in_left z F.ps (x ∷ []) k));
        });
    within = F.within;
  }

-- ---- what the marks know

module _ (u : ℕ → ℕ) (count : ℕ) (R work : List ℕ) (S : Rising u count R work) where
  pub up_first : (y : ℕ) (ps : List ℕ) → Live count R y → Links (mark_of work) y ps → Reaches u y
  up_first y [] al l = absurd (let a : 0 < y = al.0 in omega arith)
  up_first y (a ∷ qs) al l =
      ⊎_elim
      (λ (k : (mark_of work a ≡ 0) × Reaches u a). subst (λ z. Reaches u z) (sym l.0) k.1)
      (λ (k : (mark_of work a ≡ u a) × Live count R (u a)).
      let r = up_first (u a) qs k.1 (subst (λ z. Links (mark_of work) z qs) k.0 l.2) in
      (a ∷ r.0, (l.0, l.1, r.1), inr r.2))
      (S.at a (subst (λ z. Live count R z) l.0 al))

  pub up_all : (y : ℕ) (ps : List ℕ) → Live count R y → Links (mark_of work) y ps → (z : ℕ) → z ∈ ps → Live count R z × Reaches u z
  up_all y [] al l z x3 = elim x3 [ ]
  up_all y (a ∷ qs) al l z (inl e) =
      subst (λ w. Live count R w × Reaches u w) (l.0 ∙ sym e) (al, up_first y (a ∷ qs) al l)
  up_all y (a ∷ qs) al l z (inr m) =
      ⊎_elim
      (λ (k : (mark_of work a ≡ 0) × Reaches u a).
      let n : qs ≡ [] = one_list (mark_of work) (mark_of work a) 0 qs [] k.0 l.2 refl in
      absurd (subst (λ w. z ∈ w) n m))
      (λ (k : (mark_of work a ≡ u a) × Live count R (u a)).
      up_all (u a) qs k.1 (subst (λ w. Links (mark_of work) w qs) k.0 l.2) z m)
      (S.at a (subst (λ w. Live count R w) l.0 al))

  pub ends_of : u 1 ≡ 0 → (y : ℕ) (xs : List ℕ) → Live count R y → Links u y xs → 1 ∈ xs → Tops count work y
  ends_of u1 y [] al l m = elim m [ ]
  ends_of u1 y (a ∷ xs) al l m =
      let la : Live count R a = subst (λ w. Live count R w) l.0 al in
      ⊎_elim
      (λ (k : (mark_of work a ≡ 0) × Reaches u a). (a ∷ [], (l.0, l.1, k.0), λ z. ⊎_elim (λ (e : z ≡ a). let b : a < count = la.1 in omega arith) absurd))
      (λ (k : (mark_of work a ≡ u a) × Live count R (u a)).
      ⊎_elim
      (λ (e : 1 ≡ a). absurd (let b : 0 < u a = k.1.0 in let q : u a ≡ 0 = ap u (sym e) ∙ u1 in omega arith))
      (λ (j : 1 ∈ xs).
      let r = ends_of u1 (u a) xs k.1 l.2 j in (
        a ∷ r.0,
        (l.0, l.1, subst (λ w. Links (mark_of work) w r.0) (sym k.0) r.1),
        λ z. ⊎_elim (λ (e : z ≡ a). let b : a < count = la.1 in omega arith) (λ (h : z ∈ r.0). r.2 z h),
      ))
      m)
      (S.at a la)

  -- marks set to 0 on the way up
  pub rising_flat : (work' : List ℕ) (y : ℕ) (ps : List ℕ) → Live count R y → Links (mark_of work) y ps → Marked (mark_of work) (mark_of work') 0 ps → Rising u count R work'
  rising_flat work' y ps al l M = record {
    at = λ z lz.
        ⊎_elim
        (λ (m : z ∈ ps). inl (M.marked z m, (up_all y ps al l z m).1))
        (λ (m : z ∈ ps → ⊥).
        let e : mark_of work' z ≡ mark_of work z = M.others z m in
        ⊎_elim (λ (k : (mark_of work z ≡ 0) × Reaches u z). inl (e ∙ k.0, k.1)) (λ (k : (mark_of work z ≡ u z) × Live count R (u z)). inr (e ∙ k.0, k.1)) (S.at z lz))
        (in_or z ps);
  }

  pub told_flat : GoneMarked count R work → (work' : List ℕ) (y : ℕ) (ps : List ℕ) → Live count R y → Links (mark_of work) y ps → Marked (mark_of work) (mark_of work') 0 ps → GoneMarked count R work'
  told_flat T work' y ps al l M = record {
    dead = λ p a b.
        ⊎_elim
        (λ (m : p ∈ ps).
        let z : mark_of work' p ≡ 0 = M.marked p m in
        (λ k. absurd ((up_all y ps al l p m).0.2 k), λ (k : mark_of work' p ≡ gone). absurd (omega arith)))
        (λ (m : p ∈ ps → ⊥).
        let e : mark_of work' p ≡ mark_of work p = M.others p m in
        (λ k. e ∙ (T.dead p a b).0 k, λ k. (T.dead p a b).1 (sym e ∙ k)))
        (in_or p ps);
  }

-- ---- rises

pub alive_of : {count : ℕ} {R work : List ℕ} {y i m : ℕ} → GoneMarked count R work → 0 < y → y < count → i ≡ y → m ≡ get_or work i 0 → (m ≡ gone → ⊥) → Live count R y
alive_of {count} {R} {work} {y} {i} {m} T a b ei em n = (a, b, λ k. n (em ∙ ap (mark_of work) ei ∙ (T.dead y a b).0 k))

pub rises_gone : {count y : ℕ} {work : List ℕ} (i m : ℕ) → 0 < y → y < count → i ≡ y → m ≡ get_or work i 0 → m ≡ gone → Risen count y work work true
rises_gone {count} {y} {work} i m a b ei em g = record {
  good = λ _ u R T S. (T, S, λ al. absurd (al.2 ((T.dead y a b).1 (ap (mark_of work) (sym ei) ∙ sym em ∙ g))));
  bad = λ e. absurd (false≢true (sym e));
  within = within_refl 0 count work;
}

pub rises_not : {count y : ℕ} {work : List ℕ} {r : Bool} (i m : ℕ) → 0 < y → y < count → i ≡ y → m ≡ get_or work i 0 → (m ≡ gone → ⊥) → Tells (Tops count work y) r → r ≡ false
    → Risen count y work work false
rises_not {count} {y} {work} {r} i m a b ei em n C f = record {
  good = λ e. absurd (false≢true e);
  bad = λ _ u R u1 T S.
      let al : Live count R y = alive_of T a b ei em n in
      (al, λ p. false≢true (sym f ∙ C.only (ends_of u count R work S u1 y p.0 al p.1 p.2)));
  within = within_refl 0 count work;
}

pub rises_up : {count y : ℕ} {work work' : List ℕ} {r : Bool} (i m : ℕ) → 0 < y → y < count → i ≡ y → m ≡ get_or work i 0 → (m ≡ gone → ⊥) → Tells (Tops count work y) r → r ≡ true
    → Flat count y work work' → Risen count y work work' true
rises_up {count} {y} {work} {work'} {r} i m a b ei em n C t F = record {
  good = λ _ u R T S.
      let al : Live count R y = alive_of T a b ei em n in
      let E = C.yes t in
      let M = F.marks E.0 E.1 in (
        told_flat u count R work S T work' y E.0 al E.1 M,
        rising_flat u count R work S work' y E.0 al E.1 M,
        λ _. up_first u count R work S y E.0 al E.1,
      );
  bad = λ e. absurd (false≢true (sym e));
  within = F.within;
}

-- ---- the loop of all_reach, before directory y

pub record Reaching (count : ℕ) (work₀ work : List ℕ) (y : ℕ) : Type 0 where
  pub some : 0 < y
  pub known : (u : ℕ → ℕ) (R : List ℕ) → GoneMarked count R work₀ → Rising u count R work₀
      → GoneMarked count R work × Rising u count R work × ((z : ℕ) → z < y → Live count R z → Reaches u z)
  pub within : Within 0 count work₀ work

pub reach_begin : (count : ℕ) (work : List ℕ) → Reaching count work work 1
reach_begin count work = record {
  some = omega arith;
  known = λ u R T S. (T, S, λ z h al. absurd (let a : 0 < z = al.0 in omega arith));
  within = within_refl 0 count work;
}

module _ {count : ℕ} {work₀ work work' : List ℕ} {y : ℕ} {r : Bool} (G : Reaching count work₀ work y) (N : Risen count y work work' r) where
  pub reach_on : r ≡ true → Reaching count work₀ work' (y + 1)
  reach_on t = record {
    some = omega arith;
    known = λ u R T S.
        let k = G.known u R T S in
        let n = N.good t u R k.0 k.1 in (
          n.0,
          n.1,
          λ z h al.
              ⊎_elim (λ (e : z ≡ y). subst (λ w. Reaches u w) (sym e) (n.2 (subst (λ w. Live count R w) e al))) (λ (e : z ≢ y). k.2 z (omega arith) al) (same_or z y),
        );
    within = within_trans G.within N.within;
  }

  pub reach_stop : r ≡ false → AllRisen count work₀ work' false
  reach_stop f = record {
    good = λ e. absurd (false≢true e);
    bad = λ _ u R u1 T S all.
        let k = G.known u R T S in
        let n = N.bad f u R u1 k.0 k.1 in
        n.1 (all y n.0);
    within = within_trans G.within N.within;
  }

pub reach_done : {count : ℕ} {work₀ work : List ℕ} {y : ℕ} → Reaching count work₀ work y → count ≤ y → AllRisen count work₀ work true
reach_done {count} {work₀} {work} {y} G h = record {
  good = λ _ u R T S. let k = G.known u R T S in (k.0, λ z al. k.2 z (let a : z < count = al.1 in omega arith) al);
  bad = λ e. absurd (false≢true (sym e));
  within = G.within;
}
