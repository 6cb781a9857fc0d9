-- Every live entry has an age, and each of its links leads to one of a lower age: what the steps on one table do to it.
use mathlib.Core.Path.{◌≡◌, refl, sym, ap, ◌∙◌, subst, subst⁻¹}
use mathlib.Core.List.{List, [], ◌∷◌}
use mathlib.Core.Logic.{◌⊎◌, inl, inr, ⊎_elim, ◌≢◌}
use mathlib.Core.Bool.{Bool}
use Prim.Native.Nat.{ℕ, zero, suc, ◌+◌, ◌≤◌, ◌<◌}
use native.Mathlib.Omega.{arith}
use native.Mathlib.Nat.{mod-lt}
use lib.Dec.{eqb}
use Rattle.links.specs.Links.{◌∈◌, Links, Holds}
use Rattle.links.specs.Change.{pick, upd, walk, before, cut_next}
use Rattle.links.proofs.Laws.{by_eq, next_in}
use Rattle.links.proofs.Held.{same_or, upd_same, upd_other, before_is}
use Rattle.tree_key.specs.Hash.{hash_of}
use Rattle.tree_table.specs.View.{View, Live, parent, place}
use Rattle.tree_table.specs.Steps.{taken, bucket_before, child_before}
use Rattle.tree_table.proofs.Table.{Here, Sound, link, unlink, unlinked, take, give, rest, Space, Took, took, took_live, walk_is, not_zero}
use Rattle.tree_table.proofs.Agree.{Agree}
use Rattle.tree_aged.specs.Age.{Names, Newer, one, more}

-- live, and not x, which is in no list
abbrev pub In : (count : ℕ) (R : List ℕ) (x y : ℕ) → Type 0
In count R x y = Live count R y × (y ≢ x)

pub record Ages (count root : ℕ) (coll next : ℕ → ℕ) (R : List ℕ) (x : ℕ) : Type 0 where
  pub age : ℕ → ℕ
  pub clock : ℕ
  pub young : (y : ℕ) → In count R x y → age y < clock
  pub by_coll : (y : ℕ) → In count R x y → 0 < coll y → age (coll y) < age y
  pub by_next : (y : ℕ) → In count R x y → 0 < next y → age (next y) < age y
  -- the root, of the directories alone, names nothing
  pub root_last : 0 < root → (coll root ≡ 0) × (next root ≡ 0)

abbrev pub AgesOf : (v : View) (R : List ℕ) (x : ℕ) → Type 0
AgesOf v R x = Ages v.count v.root v.coll v.next R x

-- ---- a table that agrees

pub ages_agree : (v v' : View) (R : List ℕ) (x : ℕ) → Agree v v' → AgesOf v R x → AgesOf v' R x
ages_agree v v' R x A G =
    let in_v : (y : ℕ) → In v'.count R x y → In v.count R x y = λ y h. subst (λ (n : ℕ). In n R x y) A.count h in
    record {
      age = G.age;
      clock = G.clock;
      young = λ y h. G.young y (in_v y h);
      by_coll = λ y h. subst⁻¹ (λ (z : ℕ). 0 < z → G.age z < G.age y) (A.coll y) (G.by_coll y (in_v y h));
      by_next = λ y h. subst⁻¹ (λ (z : ℕ). 0 < z → G.age z < G.age y) (A.next y h.0.0) (G.by_next y (in_v y h));
      root_last = λ p.
          let q = G.root_last (subst (λ (z : ℕ). 0 < z) A.root p) in
          (A.coll v'.root ∙ ap v.coll A.root ∙ q.0, A.next v'.root p ∙ ap v.next A.root ∙ q.1);
    }

-- ---- x is put before all others

module _ (count root : ℕ) (coll next : ℕ → ℕ) (R : List ℕ) (x hash head : ℕ) (apart : 0 < root → root ≢ x) (G : Ages count root coll next R x)
    (nc : (y : ℕ) → In count R x y → 0 < coll y → coll y ≢ x) (nn : (y : ℕ) → In count R x y → 0 < next y → next y ≢ x)
    (hh : 0 < hash → In count R x hash) (hp : 0 < head → In count R x head) where
  new : ℕ → ℕ
  new = upd G.age x G.clock

  new_x : (y : ℕ) → y ≡ x → new y ≡ G.clock
  unfolding new
  new_x y e = upd_same G.age x G.clock y e

  new_other : (y : ℕ) → y ≢ x → new y ≡ G.age y
  unfolding new
  new_other y n = upd_other G.age x G.clock y n

  -- one of the two links: to z of x, as before of the others
  by : (link : ℕ → ℕ) (z : ℕ) → ((y : ℕ) → In count R x y → 0 < link y → G.age (link y) < G.age y) → ((y : ℕ) → In count R x y → 0 < link y → link y ≢ x)
      → (0 < z → In count R x z) → (y : ℕ) → In count R 0 y → 0 < upd link x z y → new (upd link x z y) < new y
  by link z older not-x there y h =
      ⊎_elim
      (λ (e : y ≡ x).
      subst⁻¹ (λ (v : ℕ). 0 < v → new v < new y) (upd_same link x z y e)
      (λ p. let t = there p in let a : G.age z < G.clock = G.young z t in omega (arith, new_other z t.1, new_x y e, a)))
      (λ (n : y ≢ x).
      subst⁻¹ (λ (v : ℕ). 0 < v → new v < new y) (upd_other link x z y n)
      (λ p. let a : G.age (link y) < G.age y = older y (h.0, n) p in omega (arith, new_other (link y) (not-x y (h.0, n) p), new_other y n, a)))
      (same_or y x)

  pub ages_link : Ages count root (upd coll x hash) (upd next x head) R 0
  ages_link = record {
    age = new;
    clock = suc G.clock;
    young = λ y h.
        ⊎_elim (λ (e : y ≡ x). omega (arith, new_x y e))
        (λ (n : y ≢ x). let a : G.age y < G.clock = G.young y (h.0, n) in omega (arith, new_other y n, a))
        (same_or y x);
    by_coll = by coll hash G.by_coll nc hh;
    by_next = by next head G.by_next nn hp;
    root_last = λ p.
        let q = G.root_last p in (upd_other coll x hash root (apart p) ∙ q.0, upd_other next x head root (apart p) ∙ q.1);
  }

-- ---- x leaves its lists

module _ (count root : ℕ) (coll next : ℕ → ℕ) (R : List ℕ) (x p q : ℕ) (lx : Live count R x) (G : Ages count root coll next R 0) (ec : p ≢ 0 → coll p ≡ x)
    (en : q ≢ 0 → next q ≡ x) where
  in_x : In count R 0 x
  in_x = (lx, not_zero lx.0)

  cut : (link : ℕ → ℕ) (b : ℕ) → (b ≢ 0 → link b ≡ x) → ((y : ℕ) → In count R 0 y → 0 < link y → G.age (link y) < G.age y)
      → (y : ℕ) → In count R 0 y → 0 < cut_next link b (link x) y → G.age (cut_next link b (link x) y) < G.age y
  cut link b e older y h =
      by_eq b 0 (λ t. 0 < pick t link (upd link b (link x)) y → G.age (pick t link (upd link b (link x)) y) < G.age y) (λ _. older y h)
      (λ n.
      ⊎_elim
      (λ (s : y ≡ b).
      subst⁻¹ (λ (v : ℕ). 0 < v → G.age v < G.age y) (upd_same link b (link x) y s)
      (λ z.
      let a : G.age (link x) < G.age x = older x in_x z in
      let f : link y ≡ x = ap link s ∙ e n in
      let c : G.age (link y) < G.age y = older y h (subst⁻¹ (λ (v : ℕ). 0 < v) f lx.0) in
      omega (arith, a, c, ap G.age f)))
      (λ (k : y ≢ b). subst⁻¹ (λ (v : ℕ). 0 < v → G.age v < G.age y) (upd_other link b (link x) y k) (older y h))
      (same_or y b))

  -- what names none is not before x
  cut_root : (link : ℕ → ℕ) (b : ℕ) → (b ≢ 0 → link b ≡ x) → link root ≡ 0 → cut_next link b (link x) root ≡ 0
  cut_root link b e z =
      by_eq b 0 (λ t. pick t link (upd link b (link x)) root ≡ 0) (λ _. z)
      (λ n.
      ⊎_elim (λ (s : root ≡ b). absurd (let a : 0 < x = lx.0 in omega (arith, a, sym (e n) ∙ ap link (sym s) ∙ z)))
      (λ (k : root ≢ b). upd_other link b (link x) root k ∙ z)
      (same_or root b))

  pub ages_unlink : Ages count root (cut_next coll p (coll x)) (cut_next next q (next x)) R x
  ages_unlink = record {
    age = G.age;
    clock = G.clock;
    young = λ y h. G.young y (h.0, not_zero h.0.0);
    by_coll = λ y h. cut coll p ec G.by_coll y (h.0, not_zero h.0.0);
    by_next = λ y h. cut next q en G.by_next y (h.0, not_zero h.0.0);
    root_last = λ r. let z = G.root_last r in (cut_root coll p ec z.0, cut_root next q en z.1);
  }

-- ---- x is given up

pub ages_give : (count root : ℕ) (coll next : ℕ → ℕ) (R : List ℕ) (x c0 n0 : ℕ) → (0 < root → root ≢ x) → Ages count root coll next R x
    → Ages count root (upd (upd coll x c0) 0 x) (upd next x n0) (x ∷ R) 0
ages_give count root coll next R x c0 n0 apart G =
    let before_it : (y : ℕ) → In count (x ∷ R) 0 y → In count R x y = λ y h. ((h.0.0, h.0.1, λ m. h.0.2 (inr m)), λ e. h.0.2 (inl e)) in
    let c : (y : ℕ) → 0 < y → y ≢ x → upd (upd coll x c0) 0 x y ≡ coll y = λ y p n. upd_other (upd coll x c0) 0 x y (not_zero p) ∙ upd_other coll x c0 y n in
    record {
      age = G.age;
      clock = G.clock;
      young = λ y h. G.young y (before_it y h);
      by_coll = λ y h. subst⁻¹ (λ (v : ℕ). 0 < v → G.age v < G.age y) (c y h.0.0 (before_it y h).1) (G.by_coll y (before_it y h));
      by_next = λ y h. subst⁻¹ (λ (v : ℕ). 0 < v → G.age v < G.age y) (upd_other next x n0 y (before_it y h).1) (G.by_next y (before_it y h));
      root_last = λ p. let q = G.root_last p in (c root p (apart p) ∙ q.0, upd_other next x n0 root (apart p) ∙ q.1);
    }

-- ---- an entry is taken

pub ages_take : (v : View) (Dir : ℕ → Type 0) (R : List ℕ) → Sound v Dir R 0 → AgesOf v R 0 → AgesOf (take v) (rest R) (taken v)
ages_take v Dir R S G =
    let t = took_live v Dir R S in
    let was : (y : ℕ) → In (take v).count (rest R) (taken v) y → In v.count R 0 y =
    λ y h. ⊎_elim (λ (e : y ≡ taken v). absurd (h.1 e)) (λ (l : (y ≢ taken v) × Live v.count R y). (l.1, not_zero l.1.0)) ((t.2 y).0 h.0)
    in
    let c : (y : ℕ) → 0 < y → (take v).coll y ≡ v.coll y =
    λ y p. by_eq (v.coll 0) 0 (λ b. pick b v.coll (upd v.coll 0 (v.coll (v.coll 0))) y ≡ v.coll y) (λ _. refl)
    (λ _. upd_other v.coll 0 (v.coll (v.coll 0)) y (not_zero p))
    in
    record {
      age = G.age;
      clock = G.clock;
      young = λ y h. G.young y (was y h);
      by_coll = λ y h. subst⁻¹ (λ (z : ℕ). 0 < z → G.age z < G.age y) (c y h.0.0) (G.by_coll y (was y h));
      by_next = λ y h. G.by_next y (was y h);
      root_last = λ p. let q = G.root_last p in (c v.root p ∙ q.0, q.1);
    }

-- ---- what soundness tells of the links

pub link_in : (next : ℕ → ℕ) (h p : ℕ) (xs : List ℕ) → Links next h xs → p ∈ xs → 0 < next p → next p ∈ xs
link_in next h p [] l m q = absurd m
link_in next h p (a ∷ xs) l m q = inr (next_in next p h a xs l m q)

head_in : (next : ℕ → ℕ) (h : ℕ) (xs : List ℕ) → Links next h xs → 0 < h → h ∈ xs
head_in next h [] l p = absurd (omega (arith, l, p))
head_in next h (a ∷ xs) l p = inl l.0

module _ (v : View) (Dir : ℕ → Type 0) (R : List ℕ) (some : 0 < v.buckets) where
  low : (k : List ℕ) → place v k < v.buckets
  low k = mod-lt (hash_of k) some

  module _ (x : ℕ) (S : Sound v Dir R x) where
    pub coll_here : (y : ℕ) → Here v R x y → 0 < v.coll y → Here v R x (v.coll y)
    coll_here y h p =
        let H = S.bucket (place v (v.key y)) (low (v.key y)) in
        ((H.2 (v.coll y)).0 (link_in v.coll (v.hash (place v (v.key y))) y H.0 H.1 ((H.2 y).1 (h, refl)) p)).0

    pub next_here : (0 < v.root → v.next v.root ≡ 0) → (y : ℕ) → Here v R x y → 0 < v.next y → Here v R x (v.next y)
    next_here last y h p =
        ⊎_elim
        (λ (e : y ≡ v.root). absurd (omega (arith, p, ap v.next e, last (subst (λ (z : ℕ). 0 < z) e h.0.0))))
        (λ (n : y ≢ v.root).
        let H = S.child (parent (v.key y)) (S.parents y h n) in
        ((H.2 (v.next y)).0 (link_in v.next (v.head (parent (v.key y))) y H.0 H.1 ((H.2 y).1 (h, refl)) p)).0)
        (same_or y v.root)

    pub hash_here : (k : List ℕ) → 0 < v.hash (place v k) → Here v R x (v.hash (place v k))
    hash_here k p = let H = S.bucket (place v k) (low k) in ((H.2 (v.hash (place v k))).0 (head_in v.coll (v.hash (place v k)) H.0 H.1 p)).0

    pub head_here : (p : ℕ) → Dir p → 0 < v.head p → Here v R x (v.head p)
    head_here p d q = let H = S.child p d in ((H.2 (v.head p)).0 (head_in v.next (v.head p) H.0 H.1 q)).0

  -- what stands before x names it
  module _ (x : ℕ) (lx : Live v.count R x) (S : Sound v Dir R 0) where
    names_x : (next : ℕ → ℕ) (h : ℕ) (P : ℕ → Type 0) (H : Holds next h (λ y. Here v R 0 y × P y)) → P x → before x 0 (walk next v.count h) ≢ 0
        → next (before x 0 (walk next v.count h)) ≡ x
    names_x next h P H px n =
        let e = walk_is v Dir R S next h P H in
        subst⁻¹ (λ (l : List ℕ). before x 0 l ≢ 0 → next (before x 0 l) ≡ x) e
        (λ k.
        ⊎_elim (λ (r : (before x 0 H.0 ≡ 0) × (h ≡ x)). absurd (k r.0)) (λ (r : before x 0 H.0 ∈ H.0 × (next (before x 0 H.0) ≡ x)). r.1)
        (before_is next x 0 h H.0 H.1 ((H.2 x).1 ((lx, not_zero lx.0), px))))
        n

    pub unlink_ages : Dir (parent (v.key x)) → AgesOf v R 0 → AgesOf (unlink v x) R x
    unlink_ages d G =
        ages_unlink v.count v.root v.coll v.next R x (bucket_before v x) (child_before v x) lx G
        (names_x v.coll (v.hash (place v (v.key x))) (λ y. place v (v.key y) ≡ place v (v.key x)) (S.bucket (place v (v.key x)) (low (v.key x))) refl)
        (names_x v.next (v.head (parent (v.key x))) (λ y. parent (v.key y) ≡ parent (v.key x)) (S.child (parent (v.key x)) d) refl)

  -- x, which is in no list, is linked
  pub link_ages : (x : ℕ) (k : List ℕ) (head : ℕ) → Sound v Dir R x → (0 < v.root → v.root ≢ x) → Dir (parent k) → head ≡ v.head (parent k) → AgesOf v R x
      → Ages v.count v.root (upd v.coll x (v.hash (place v k))) (upd v.next x head) R 0
  link_ages x k head S apart d e G =
      ages_link v.count v.root v.coll v.next R x (v.hash (place v k)) head apart G (λ y h p. (coll_here x S y h p).1) (λ y h p. (next_here x S (λ q. (G.root_last q).1) y h p).1)
      (hash_here x S k) (subst⁻¹ (λ (z : ℕ). 0 < z → Here v R x z) e (head_here x S (parent k) d))

-- rename, and make
pub relink_ages : (v : View) (Dir : ℕ → Type 0) (R : List ℕ) → 0 < v.buckets → (x : ℕ) (k : List ℕ) → Live v.count R x → Sound v Dir R 0
    → (0 < v.root → v.root ≢ x) → Dir (parent (v.key x)) → Dir (parent k) → AgesOf v R 0 → AgesOf (link (unlink v x) x k) R 0
relink_ages v Dir R some x k lx S apart d dk G =
    link_ages (unlink v x) Dir R some x k ((unlink v x).head (parent k)) (unlinked v R x lx Dir S (mod-lt (hash_of (v.key x)) some) d) apart dk refl
    (unlink_ages v Dir R some x lx S d G)

pub make_ages : (v : View) (Dir : ℕ → Type 0) (R : List ℕ) → 0 < v.buckets → (k : List ℕ) (head : ℕ) → Space v → Sound v Dir R 0
    → (0 < v.root → v.root ≢ taken v) → Dir (parent k) → head ≡ v.head (parent k) → AgesOf v R 0
    → Ages (take v).count v.root (upd (take v).coll (taken v) (v.hash (place v k))) (upd v.next (taken v) head) (rest R) 0
make_ages v Dir R some k head sp S apart dk e G =
    link_ages (take v) Dir (rest R) some (taken v) k head (took v Dir R S sp) apart dk e (ages_take v Dir R S G)

-- ---- ages shut out circles

module _ (count root : ℕ) (coll next : ℕ → ℕ) (R : List ℕ) (G : Ages count root coll next R 0)
    (cl : (y : ℕ) → Live count R y → 0 < coll y → Live count R (coll y)) (nl : (y : ℕ) → Live count R y → 0 < next y → Live count R (next y)) where
  older_one : (x y : ℕ) → Names coll next x y → Live count R x → (G.age y < G.age x) × Live count R y
  older_one x y (p, inl e) l =
      let q : 0 < coll x = subst⁻¹ (λ (v : ℕ). 0 < v) e p in
      (subst (λ (v : ℕ). G.age v < G.age x) e (G.by_coll x (l, not_zero l.0) q), subst (λ (v : ℕ). Live count R v) e (cl x l q))
  older_one x y (p, inr e) l =
      let q : 0 < next x = subst⁻¹ (λ (v : ℕ). 0 < v) e p in
      (subst (λ (v : ℕ). G.age v < G.age x) e (G.by_next x (l, not_zero l.0) q), subst (λ (v : ℕ). Live count R v) e (nl x l q))

  pub older : {x z : ℕ} → Newer coll next x z → Live count R x → (G.age z < G.age x) × Live count R z
  older (one x y n) l = older_one x y n l
  older (more x y z n r) l = let a = older_one x y n l in let b = older r a.1 in (omega (arith, a.0, b.0), b.1)
