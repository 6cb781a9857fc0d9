-- Many lists gone along one after the other: laws.
use mathlib.Core.Path.{◌≡◌, refl, sym, ap, ◌∙◌, subst}
use mathlib.Core.List.{List, [], ◌∷◌}
use mathlib.Core.Logic.{◌⊎◌, inl, inr, ⊎_elim, ◌≢◌, ◌↔◌}
use mathlib.Core.Bool.{Bool, true, false, false≢true}
use Prim.Native.Nat.{ℕ, ◌+◌, ◌-◌, ◌≤◌, ◌<◌}
use native.Mathlib.Omega.{arith}
use lib.ListN.{length, get_or, set, take, drop, length-set}
use Rattle.std.proofs.lemmas.List.{set-get_or}
use lib.Seq.{get_or-take, get_or-drop, get_or-set_same, get_or-set_other}
use Rattle.links.specs.Links.{◌∈◌, Links, Holds}
use Rattle.links.proofs.Laws.{one_list, positive}
use Rattle.links.proofs.Held.{same_or}
use Rattle.order.specs.Tells.{Tells}
use Rattle.tree_marks.specs.Inner.Marks.{gone, mark_at, Unmarked, Marked, ListMarked, Within}
use Rattle.tree_marks.proofs.Walks.{le_or_lt, within_refl, within_trans}
use Rattle.tree_marks.proofs.Parts.{patched, part_within, part_mark, part_room}
use Rattle.tree_table.specs.View.{Live}
use Rattle.tree_marks.specs.Inner.Gather.{Gathered, Gathers, GoneMarked, DirMarked, GoneKept}

pub in_or : (y : ℕ) (xs : List ℕ) → (y ∈ xs) ⊎ (y ∈ xs → ⊥)
in_or y [] = inr (λ h. h)
in_or y (a ∷ xs) =
    ⊎_elim (λ (e : y ≡ a). inl (inl e))
    (λ (n : y ≢ a). ⊎_elim (λ (h : y ∈ xs). inl (inr h)) (λ (h : y ∈ xs → ⊥). inr (⊎_elim n h)) (in_or y xs))
    (same_or y a)

module _ (nx : ℕ → ℕ) (count : ℕ) (head : ℕ → ℕ) (want : ℕ → Type 0) (R : List ℕ) where
  module _ (i : ℕ) (hi : 0 < i) (hg : i < gone) (W : ℕ → ℕ) (G : Gathered nx count head want R i W) where
    -- one more list
    pub gather : want i → (W' : ℕ → ℕ) (xs : List ℕ) → Links nx (head i) xs → Unmarked count W xs → Marked W W' i xs → Gathered nx count head want R (i + 1) W'
    gather wi W' xs l f M = record {
      removed = λ y. (
        λ h. let e : W y ≡ gone = (G.removed y).0 h in M.others y (λ (m : y ∈ xs). let z : W y ≡ 0 = (f y m).1 in omega arith) ∙ e,
        λ (e : W' y ≡ gone). (G.removed y).1 (same y (λ (q : W' y ≡ i). omega arith) e),
      );
      list = λ j j0 ji wj.
          ⊎_elim
          (λ (e : j ≡ i). (
            xs,
            subst (λ z. Links nx (head z) xs) (sym e) l,
            λ y. (
              λ m. M.marked y m ∙ sym e,
              λ (q : W' y ≡ j).
                  ⊎_elim (λ (h : y ∈ xs). h)
                  (λ (h : y ∈ xs → ⊥). absurd (late y (sym (M.others y h) ∙ q ∙ e)))
                  (in_or y xs),
            ),
          ))
          (λ (n : j ≢ i).
          let L = G.list j j0 (omega arith) wj in (
            L.0,
            L.1,
            λ y. (
              λ m. let e : W y ≡ j = (L.2 y).0 m in M.others y (λ (h : y ∈ xs). let z : W y ≡ 0 = (f y h).1 in omega arith) ∙ e,
              λ (e : W' y ≡ j). (L.2 y).1 (same y (λ (q : W' y ≡ i). n (sym e ∙ q)) e),
            ),
          ))
          (same_or j i);
      below = λ y n.
          ⊎_elim (λ (h : y ∈ xs). (positive nx (head i) xs l y h, (f y h).0)) (λ (h : y ∈ xs → ⊥). G.below y (λ (e : W y ≡ 0). n (M.others y h ∙ e))) (in_or y xs);
      only = λ y.
          ⊎_elim
          (λ (h : y ∈ xs). let e : W' y ≡ i = M.marked y h in inr (inr (omega arith, omega arith, subst want (sym e) wi)))
          (λ (h : y ∈ xs → ⊥).
          let e : W' y ≡ W y = M.others y h in
          ⊎_elim (λ (z : W y ≡ 0). inl (e ∙ z))
          (⊎_elim (λ (z : W y ≡ gone). inr (inl (e ∙ z)))
          (λ (z : (0 < W y) × (W y < i) × want (W y)).
          let a : 0 < W y = z.0 in let b : W y < i = z.1 in
          inr (inr (omega arith, omega arith, subst want (sym e) z.2))))
          (G.only y))
          (in_or y xs);
    }
      where
        same : (y : ℕ) → W' y ≢ i → {m : ℕ} → W' y ≡ m → W y ≡ m
        same y n e = sym (M.others y (λ (h : y ∈ xs). n (M.marked y h))) ∙ e

        -- no mark is i yet
        late : (y : ℕ) → W y ≡ i → ⊥
        late y e =
            ⊎_elim (λ (z : W y ≡ 0). omega arith)
            (⊎_elim (λ (z : W y ≡ gone). omega arith) (λ (z : (0 < W y) × (W y < i) × want (W y)). let b : W y < i = z.1 in omega arith))
            (G.only y)

    -- a number that is not wanted
    pub gather_skip : (want i → ⊥) → Gathered nx count head want R (i + 1) W
    gather_skip n = record {
      removed = G.removed;
      list = λ j j0 ji wj. G.list j j0 (let q : j ≢ i = λ (e : j ≡ i). n (subst want e wj) in omega arith) wj;
      below = G.below;
      only = λ y.
          ⊎_elim (λ (z : W y ≡ 0). inl z)
          (⊎_elim (λ (z : W y ≡ gone). inr (inl z))
          (λ (z : (0 < W y) × (W y < i) × want (W y)). let b : W y < i = z.1 in inr (inr (z.0, omega arith, z.2))))
          (G.only y);
    }

    -- if the lists are right, the next one is free: a walk that finds it is not shows that they are not
    pub gather_free : (f : ℕ → ℕ) → ((j : ℕ) → 0 < j → j ≤ i → want j → Holds nx (head j) (λ y. Live count R y × (f y ≡ j)))
        → (wi : want i) → (H : Holds nx (head i) (λ y. Live count R y × (f y ≡ i))) → Unmarked count W H.0
    gather_free f right wi H y m =
        let q = (H.2 y).0 m in (
          q.0.1,
          ⊎_elim (λ (z : W y ≡ 0). z)
              (⊎_elim (λ (z : W y ≡ gone). absurd (q.0.2 ((G.removed y).1 z)))
              (λ (z : (0 < W y) × (W y < i) × want (W y)).
              let b : W y < i = z.1 in
              let L = G.list (W y) z.0 z.1 z.2 in
              let K = right (W y) z.0 (omega arith) z.2 in
              let e : L.0 ≡ K.0 = one_list nx (head (W y)) (head (W y)) L.0 K.0 refl L.1 K.1 in
              let g : f y ≡ W y = ((K.2 y).0 (subst (λ xs. y ∈ xs) e ((L.2 y).1 refl))).1 in
              let h : f y ≡ i = q.1 in
              absurd (omega arith)))
              (G.only y),
        )

  -- all walked, and every mark is `gone` or what the entry itself says: each list holds exactly its entries
  pub gathered : (n : ℕ) (W : ℕ → ℕ) → n ≤ gone → Gathered nx count head want R n W → (f : ℕ → ℕ)
      → ((y : ℕ) → 0 < y → y < count → (W y ≡ gone) ⊎ (W y ≡ f y))
      → (j : ℕ) → 0 < j → j < n → want j → Holds nx (head j) (λ y. Live count R y × (f y ≡ j))
  gathered n W hn G f ok j j0 jn wj =
      let L = G.list j j0 jn wj in (
        L.0,
        L.1,
        λ y. (
          λ m.
              let e : W y ≡ j = (L.2 y).0 m in
              let b = G.below y (λ (z : W y ≡ 0). omega arith) in (
                (b.0, b.1, λ (h : y ∈ R). let g : W y ≡ gone = (G.removed y).0 h in omega arith),
                ⊎_elim (λ (z : W y ≡ gone). absurd (omega arith)) (λ (z : W y ≡ f y). sym z ∙ e) (ok y b.0 b.1),
              ),
          λ q.
              (L.2 y).1
              (⊎_elim (λ (z : W y ≡ gone). absurd (q.0.2 ((G.removed y).1 z))) (λ (z : W y ≡ f y). z ∙ q.1) (ok y q.0.0 q.0.1)),
        ),
      )

  -- and if the lists are right, every mark is so
  pub gathered_ok : (n : ℕ) (W : ℕ → ℕ) → Gathered nx count head want R n W → (f : ℕ → ℕ)
      → ((j : ℕ) → 0 < j → j < n → want j → Holds nx (head j) (λ y. Live count R y × (f y ≡ j)))
      → ((y : ℕ) → Live count R y → (0 < f y) × (f y < n) × want (f y))
      → (y : ℕ) → 0 < y → y < count → (W y ≡ gone) ⊎ (W y ≡ f y)
  gathered_ok n W G f right w y y0 yc =
      ⊎_elim (λ (h : y ∈ R). inl ((G.removed y).0 h))
      (λ (h : y ∈ R → ⊥).
      let k = w y (y0, yc, h) in
      let L = G.list (f y) k.0 k.1 k.2 in
      let K = right (f y) k.0 k.1 k.2 in
      let e : K.0 ≡ L.0 = one_list nx (head (f y)) (head (f y)) K.0 L.0 refl K.1 L.1 in
      inr ((L.2 y).0 (subst (λ xs. y ∈ xs) e ((K.2 y).1 ((y0, yc, h), refl)))))
      (in_or y R)

-- ---- the loops over numbered lists: buckets and child lists

module _ {nx : ℕ → ℕ} {count : ℕ} {head : ℕ → ℕ} {want : ℕ → Type 0} {R work work' : List ℕ} {i first off : ℕ} {r : Bool} (n : ℕ) (h0 : 0 < i) (hn : i < n) (hm : n ≤ gone)
    (e : first ≡ head i) (w : want i) (A : ListMarked nx count first i off work work' r) (G : Gathered nx count head want R i (mark_at work off)) where
  pub gathers_more : r ≡ true → Gathered nx count head want R (i + 1) (mark_at work' off)
  gathers_more t =
      let a = A.good t in
      gather nx count head want R i h0 (omega arith) (mark_at work off) G w (mark_at work' off) a.0 (subst (λ z. Links nx z a.0) e a.1) a.2 a.3

  pub gathers_stop : r ≡ false → Gathers nx count head want n off R work' false
  gathers_stop t = record {
    good = λ q. absurd (false≢true q);
    bad = λ _ f right.
        let H = right i h0 hn w in
        A.bad t H.0 (subst (λ z. Links nx z H.0) (sym e) H.1)
        (gather_free nx count head want R i h0 (omega arith) (mark_at work off) G f (λ j a b wj. right j a (omega arith) wj) w H);
  }

pub gathers_done : {nx : ℕ → ℕ} {count : ℕ} {head : ℕ → ℕ} {want : ℕ → Type 0} {R work : List ℕ} {i off : ℕ} (n : ℕ) → i ≡ n → Gathered nx count head want R i (mark_at work off)
    → Gathers nx count head want n off R work true
gathers_done {nx} {count} {head} {want} {R} {work} {i} {off} n e G = record {
  good = λ _. subst (λ z. Gathered nx count head want R z (mark_at work off)) e G;
  bad = λ q. absurd (false≢true (sym q));
}

-- no removed entry's mark goes, and none comes
pub gone_kept : {nx : ℕ → ℕ} {count first m off : ℕ} {work work' : List ℕ} {r : Bool} → m < gone → ListMarked nx count first m off work work' r → r ≡ true
    → (j : ℕ) → (get_or work' j 0 ≡ gone) ↔ (get_or work j 0 ≡ gone)
gone_kept {nx} {count} {first} {m} {off} {work} {work'} {r} hm A t j = ⊎_elim at outside (le_or_lt off j)
  where
    outside : j < off → (get_or work' j 0 ≡ gone) ↔ (get_or work j 0 ≡ gone)
    outside h = (λ p. sym (A.within.before j h) ∙ p, λ p. A.within.before j h ∙ p)

    here : (y : ℕ) → (mark_at work' off y ≡ gone) ↔ (mark_at work off y ≡ gone)
    here y =
        let a = A.good t in
        ⊎_elim
        (λ (k : y ∈ a.0).
        let z : mark_at work off y ≡ 0 = (a.2 y k).1 in
        let q : mark_at work' off y ≡ m = a.3.marked y k in
        (λ p. absurd (omega arith), λ p. absurd (omega arith)))
        (λ (k : y ∈ a.0 → ⊥). let q : mark_at work' off y ≡ mark_at work off y = a.3.others y k in (λ p. sym q ∙ p, λ p. q ∙ p))
        (in_or y a.0)

    at : off ≤ j → (get_or work' j 0 ≡ gone) ↔ (get_or work j 0 ≡ gone)
    at h = let e : off + (j - off) ≡ j = omega arith in subst (λ z. (get_or work' z 0 ≡ gone) ↔ (get_or work z 0 ≡ gone)) e (here (j - off))

pub told_kept : {count : ℕ} {R work work' : List ℕ} → ((j : ℕ) → (get_or work' j 0 ≡ gone) ↔ (get_or work j 0 ≡ gone)) → GoneMarked count R work → GoneMarked count R work'
told_kept k T = record { dead = λ p a b. (λ m. (k p).1 ((T.dead p a b).0 m), λ e. (T.dead p a b).1 ((k p).0 e)) }

-- the loop of mark_children, before directory p
pub record Children (nx : ℕ → ℕ) (count : ℕ) (head : ℕ → ℕ) (n off : ℕ) (work₀ work : List ℕ) (p : ℕ) : Type 0 where
  pub some : 0 < p
  pub most : (p ≤ n) ⊎ (p ≡ 1)
  pub dead : (j : ℕ) → (get_or work j 0 ≡ gone) ↔ (get_or work₀ j 0 ≡ gone)
  pub lists : (RD R : List ℕ) → GoneMarked n RD work₀ → Gathered nx count head (Live n RD) R 1 (mark_at work₀ off) → Gathered nx count head (Live n RD) R p (mark_at work off)
  pub within : Within off count work₀ work

pub children_begin : (nx : ℕ → ℕ) (count : ℕ) (head : ℕ → ℕ) (n off : ℕ) (work : List ℕ) → Children nx count head n off work work 1
children_begin nx count head n off work = record {
  some = omega arith;
  most = inr refl;
  dead = λ j. (λ e. e, λ e. e);
  lists = λ RD R T G. G;
  within = within_refl off count work;
}

module _ {nx : ℕ → ℕ} {count : ℕ} {head : ℕ → ℕ} {n off : ℕ} {work₀ work work' : List ℕ} {p : ℕ} {r : Bool} (C : Children nx count head n off work₀ work p) (hp : p < n) (hm : n ≤ 65536)
    (D : DirMarked nx count head p off work work' r) where
  alive : (RD : List ℕ) → GoneMarked n RD work₀ → (get_or work p 0 ≡ gone → ⊥) → Live n RD p
  alive RD T k = (C.some, hp, λ m. k ((C.dead p).1 ((T.dead p C.some hp).0 m)))

  pub children_on : r ≡ true → Children nx count head n off work₀ work' (p + 1)
  children_on t = ⊎_elim skip more (same_or (get_or work p 0) gone)
    where
      skip : get_or work p 0 ≡ gone → Children nx count head n off work₀ work' (p + 1)
      skip z =
          subst (λ l. Children nx count head n off work₀ l (p + 1)) (sym (D.none z).1) (record {
            some = omega arith;
            most = inl (omega arith);
            dead = C.dead;
            within = C.within;
            lists = λ RD R T G.
                gather_skip nx count head (Live n RD) R p C.some (omega arith) (mark_at work off) (C.lists RD R T G)
                (λ a. a.2 ((T.dead p C.some hp).1 ((C.dead p).0 z)));
          })

      more : (get_or work p 0 ≡ gone → ⊥) → Children nx count head n off work₀ work' (p + 1)
      more k =
          let L = D.some k in
          let hg : p < gone = omega arith in
          let g : (j : ℕ) → (get_or work' j 0 ≡ gone) ↔ (get_or work j 0 ≡ gone) = gone_kept hg L t in
          record {
            some = omega arith;
            most = inl (omega arith);
            dead = λ j. (λ e. (C.dead j).0 ((g j).0 e), λ e. (g j).1 ((C.dead j).1 e));
            within = within_trans C.within L.within;
            lists = λ RD R T G. gathers_more n C.some hp (omega arith) refl (alive RD T k) L (C.lists RD R T G) t;
          }

  pub children_stop : r ≡ false
      → ((RD R : List ℕ) → GoneMarked n RD work₀ → Gathered nx count head (Live n RD) R 1 (mark_at work₀ off) → Gathers nx count head (Live n RD) n off R work' false)
      × Within off count work₀ work'
  children_stop t =
      let k : get_or work p 0 ≡ gone → ⊥ = λ z. false≢true (sym t ∙ (D.none z).0) in
      let L = D.some k in
      (λ RD R T G. gathers_stop n C.some hp (omega arith) refl (alive RD T k) L (C.lists RD R T G) t, within_trans C.within L.within)

-- a table of no directories has no lists
pub children_done : {nx : ℕ → ℕ} {count : ℕ} {head : ℕ → ℕ} {n off : ℕ} {work₀ work : List ℕ} {p : ℕ} → Children nx count head n off work₀ work p → n ≤ p → 1 ≤ n
    → ((RD R : List ℕ) → GoneMarked n RD work₀ → Gathered nx count head (Live n RD) R 1 (mark_at work₀ off) → Gathers nx count head (Live n RD) n off R work true)
    × Within off count work₀ work
children_done {nx} {count} {head} {n} {off} {work₀} {work} {p} C h h1 =
    let e : p ≡ n = ⊎_elim (λ (k : p ≤ n). omega arith) (λ (k : p ≡ 1). omega arith) C.most in
    (λ RD R T G. gathers_done n e (C.lists RD R T G), C.within)

-- ---- mark_dir

pub dir_none : {head : ℕ → ℕ} {p : ℕ} {work : List ℕ} (nx : ℕ → ℕ) (count : ℕ) (off : ℕ) {i : ℕ} → i ≡ p → get_or work i 0 ≡ gone → DirMarked nx count head p off work work true
dir_none {head} {p} {work} nx count off {i} e z = record {
  none = λ _. (refl, refl);
  some = λ k. absurd (k (subst (λ y. get_or work y 0 ≡ gone) e z));
}

pub dir_some : {nx : ℕ → ℕ} {count : ℕ} {head : ℕ → ℕ} {p off i first : ℕ} {work work' : List ℕ} {r : Bool} → i ≡ p → (get_or work i 0 ≡ gone → ⊥) → first ≡ head i
    → ListMarked nx count first p off work work' r → DirMarked nx count head p off work work' r
dir_some {nx} {count} {head} {p} {off} {i} {first} {work} {work'} {r} e k f L = record {
  none = λ z. absurd (k (subst (λ y. get_or work y 0 ≡ gone) (sym e) z));
  some = λ _. subst (λ y. ListMarked nx count y p off work work' r) (f ∙ ap head e) L;
}

-- ---- the loop of keep_gone, before place y of the marks

pub record Sifting (marks₀ marks : List ℕ) (y : ℕ) : Type 0 where
  pub size : length marks ≡ length marks₀
  pub dead : (z : ℕ) → z < y → get_or marks₀ z 0 ≡ gone → get_or marks z 0 ≡ gone
  pub others : (z : ℕ) → z < y → (get_or marks₀ z 0 ≡ gone → ⊥) → get_or marks z 0 ≡ 0
  pub rest : (z : ℕ) → y ≤ z → get_or marks z 0 ≡ get_or marks₀ z 0

pub sift_begin : (marks : List ℕ) → Sifting marks marks 0
sift_begin marks = record { size = refl; dead = λ z h. absurd (omega arith); others = λ z h. absurd (omega arith); rest = λ z h. refl }

module _ {marks₀ marks : List ℕ} {y : ℕ} (S : Sifting marks₀ marks y) where
  kept : get_or marks y 0 ≡ gone → Sifting marks₀ marks (y + 1)
  kept g = record {
    size = S.size;
    dead = λ z h e. ⊎_elim (λ (q : z ≡ y). ap (λ i. get_or marks i 0) q ∙ g) (λ (n : z ≢ y). S.dead z (omega arith) e) (same_or z y);
    others = λ z h e. ⊎_elim (λ (q : z ≡ y). absurd (e (sym (S.rest z (omega arith)) ∙ ap (λ i. get_or marks i 0) q ∙ g))) (λ (n : z ≢ y). S.others z (omega arith) e) (same_or z y);
    rest = λ z h. S.rest z (omega arith);
  }

  out : y < length marks → (get_or marks y 0 ≡ gone → ⊥) → Sifting marks₀ (set marks y 0) (y + 1)
  out l g = record {
    size = length-set marks y 0 ∙ S.size;
    dead = λ z h e.
        ⊎_elim (λ (q : z ≡ y). absurd (g (ap (λ i. get_or marks i 0) (sym q) ∙ S.rest z (omega arith) ∙ e)))
        (λ (n : z ≢ y). get_or-set_other marks y z 0 0 n ∙ S.dead z (omega arith) e) (same_or z y);
    others = λ z h e.
        ⊎_elim (λ (q : z ≡ y). ap (λ i. get_or (set marks y 0) i 0) q ∙ get_or-set_same marks y 0 0 l)
        (λ (n : z ≢ y). get_or-set_other marks y z 0 0 n ∙ S.others z (omega arith) e) (same_or z y);
    rest = λ z h. get_or-set_other marks y z 0 0 (λ q. omega arith) ∙ S.rest z (omega arith);
  }

  pub sift_kept : {marks' : List ℕ} → marks' ≡ set marks y (get_or marks y 0) → get_or marks y 0 ≡ gone → Sifting marks₀ marks' (y + 1)
  sift_kept e g = subst (λ (z : List ℕ). Sifting marks₀ z (y + 1)) (sym (e ∙ set-get_or marks y 0)) (kept g)

  pub sift_out : {marks' : List ℕ} → marks' ≡ set marks y 0 → y < length marks → (get_or marks y 0 ≡ gone → ⊥) → Sifting marks₀ marks' (y + 1)
  sift_out e l g = subst (λ (z : List ℕ). Sifting marks₀ z (y + 1)) (sym e) (out l g)

-- the part of the work list that was gone through, back in its place
pub sift_done : (work : List ℕ) {marks : List ℕ} (off count i : ℕ) {y : ℕ} → i ≡ count → off + count ≤ length work → Sifting (take (off + i - off) (drop off work)) marks y
    → length (take (off + i - off) (drop off work)) ≤ y → GoneKept off count work (patched work off (off + i - off) marks)
sift_done work {marks} off count i {y} e h S l =
    let r : length (take (off + i - off) (drop off work)) ≡ count = part_room work off i count e h in
    let k : off + i - off ≡ count = omega arith in
    let m : length marks ≡ off + i - off = S.size ∙ r ∙ sym k in
    let was : (z : ℕ) → z < count → get_or (take (off + i - off) (drop off work)) z 0 ≡ mark_at work off z =
    λ z g. get_or-take (off + i - off) (drop off work) z 0 (omega arith) ∙ get_or-drop off work z 0 in
    record {
      dead = λ z g d. part_mark work marks off count (off + i - off) h k m z g ∙ S.dead z (omega arith) (was z g ∙ d);
      others = λ z g d. part_mark work marks off count (off + i - off) h k m z g ∙ S.others z (omega arith) (λ q. d (sym (was z g) ∙ q));
      within = part_within work marks off count (off + i - off) h k m;
    }

-- ---- the loop of check_parents

pub record Checking (P : ℕ → Type 0) (y : ℕ) : Type 0 where
  pub some : 0 < y
  pub right : (z : ℕ) → 0 < z → z < y → P z

pub check_begin : (P : ℕ → Type 0) → Checking P 1
check_begin P = record { some = omega arith; right = λ z a b. absurd (omega arith) }

pub check_on : {P : ℕ → Type 0} {y : ℕ} {r : Bool} → Checking P y → Tells (P y) r → r ≡ true → Checking P (y + 1)
check_on {P} {y} {r} C T t = record {
  some = omega arith;
  right = λ z a b. ⊎_elim (λ (e : z ≡ y). subst P (sym e) (T.yes t)) (λ (n : z ≢ y). C.right z a (omega arith)) (same_or z y);
}

pub check_stop : {P : ℕ → Type 0} {y count : ℕ} {r : Bool} → Checking P y → y < count → Tells (P y) r → r ≡ false → Tells ((z : ℕ) → 0 < z → z < count → P z) false
check_stop {P} {y} {count} {r} C h T f = record { yes = λ e. absurd (false≢true e); only = λ all. absurd (false≢true (sym f ∙ T.only (all y C.some h))) }

pub check_done : {P : ℕ → Type 0} {y count : ℕ} → Checking P y → count ≤ y → Tells ((z : ℕ) → 0 < z → z < count → P z) true
check_done C h = record { yes = λ _ z a b. C.right z a (omega arith); only = λ _. refl }
