-- The steps on views that keep one table's rule with one loose entry: unlink, take, give. Link stands in Linked.
use mathlib.Core.Path.{◌≡◌, refl, sym, ap, ◌∙◌, subst}
use mathlib.Core.List.{List, [], ◌∷◌}
use mathlib.Core.Logic.{◌⊎◌, inl, inr, ⊎_elim, ◌≢◌, ◌↔◌}
use Prim.Native.Nat.{ℕ, ◌+◌, ◌≤◌, ◌<◌}
use native.Mathlib.Omega.{arith}
use lib.Dec.{eqb}
use lib.ListN.{length}
use Rattle.links.specs.Links.{◌∈◌, Links, Holds}
use Rattle.links.specs.Change.{pick, upd, walk, before, cut_head, cut_next}
use Rattle.links.proofs.Laws.{by_eq, positive, distinct, walked, fewer, kept}
use Rattle.links.proofs.Held.{same_or, upd_same, upd_other, before_is, holds_kept, holds_cut}
use Rattle.tree_table.specs.View.{View, parent, place, Live, removed_of}
use Rattle.tree_table.specs.Steps.{taken, bucket_before, child_before}
use Rattle.tree_table.proofs.Linked.{head_kept}
pub use Rattle.tree_table.proofs.Linked.{Here, Sound, link, linked}

-- ---- unlink: x is taken out of its bucket and of its parent's list

abbrev pub unlink : View → ℕ → View
unlink v x = record {
  buckets = v.buckets;
  room = v.room;
  root = v.root;
  count = v.count;
  maximum = v.maximum;
  hash = upd v.hash (place v (v.key x)) (cut_head (bucket_before v x) (v.coll x) (v.hash (place v (v.key x))));
  coll = cut_next v.coll (bucket_before v x) (v.coll x);
  next = cut_next v.next (child_before v x) (v.next x);
  head = upd v.head (parent (v.key x)) (cut_head (child_before v x) (v.next x) (v.head (parent (v.key x))));
  key = v.key;
}

pub not_zero : {y : ℕ} → 0 < y → y ≢ 0
not_zero {y} p e = omega arith

cut_other : (next : ℕ → ℕ) (p new y : ℕ) → (p ≢ 0 → y ≢ p) → cut_next next p new y ≡ next y
cut_other next p new y k =
    by_eq p 0 (λ t. pick t next (upd next p new) y ≡ next y) (λ _. refl) (λ n. upd_other next p new y (k n))

module _ (v : View) (R : List ℕ) (x : ℕ) (lx : Live v.count R x) where
  -- the lists of any part f of the key
  module _ (f : List ℕ → ℕ) (next head : ℕ → ℕ) (H : Holds next (head (f (v.key x))) (λ y. Here v R 0 y × (f (v.key y) ≡ f (v.key x)))) where
    -- the walk with fuel count finds the entry before x
    cut_is : before x 0 (walk next v.count (head (f (v.key x)))) ≡ before x 0 H.0
    cut_is =
        ap (before x 0) (walked next v.count (head (f (v.key x))) H.0 H.1
        (let s : length H.0 < v.count =
        fewer next v.count (head (f (v.key x))) H.0
        (let a : 0 < x = lx.0 in let b : x < v.count = lx.1 in omega arith)
        H.1 (λ y m. ((H.2 y).0 m).0.0.1) in omega arith))

    module _ (p : ℕ) (ep : p ≡ before x 0 H.0) where
      -- where it is an entry, it is a live one of the same list
      cut_here : p ≢ 0 → Here v R 0 p × (f (v.key p) ≡ f (v.key x))
      cut_here n =
          ⊎_elim (λ (r : (before x 0 H.0 ≡ 0) × (head (f (v.key x)) ≡ x)). absurd (n (ep ∙ r.0)))
          (λ (r : before x 0 H.0 ∈ H.0 × (next (before x 0 H.0) ≡ x)). (H.2 p).0 (subst (λ z. z ∈ H.0) (sym ep) r.0))
          (before_is next x 0 (head (f (v.key x))) H.0 H.1 ((H.2 x).1 ((lx, not_zero lx.0), refl)))

      cut_list : (b : ℕ) → Holds next (head b) (λ y. Here v R 0 y × (f (v.key y) ≡ b))
          → Holds (cut_next next p (next x)) (upd head (f (v.key x)) (cut_head p (next x) (head (f (v.key x)))) b) (λ y. Here v R x y × (f (v.key y) ≡ b))
      cut_list b Hb =
          ⊎_elim
          (λ (e : b ≡ f (v.key x)).
          holds_cut next (cut_next next p (next x)) (λ y. Here v R 0 y × (f (v.key y) ≡ f (v.key x))) (λ y. Here v R x y × (f (v.key y) ≡ b))
          (head (f (v.key x))) (upd head (f (v.key x)) (cut_head p (next x) (head (f (v.key x)))) b) x p H ((lx, not_zero lx.0), refl) ep
          (upd_same head (f (v.key x)) (cut_head p (next x) (head (f (v.key x)))) b e)
          (λ y _ _. refl)
          (λ y. (λ q. (((q.0.0, not_zero q.0.0.0), q.1 ∙ e), q.0.1), λ q. ((q.0.0.0, q.1), q.0.1 ∙ sym e))))
          (λ (n : b ≢ f (v.key x)).
          holds_kept next (cut_next next p (next x)) (λ y. Here v R 0 y × (f (v.key y) ≡ b)) (λ y. Here v R x y × (f (v.key y) ≡ b))
          (head b) (upd head (f (v.key x)) (cut_head p (next x) (head (f (v.key x)))) b)
          (upd_other head (f (v.key x)) (cut_head p (next x) (head (f (v.key x)))) b n)
          (λ y q. cut_other next p (next x) y (λ z (e : y ≡ p). n (sym q.1 ∙ ap (λ u. f (v.key u)) e ∙ (cut_here z).1)))
          (λ y. (λ q. ((q.0.0, λ (e : y ≡ x). n (sym q.1 ∙ ap (λ u. f (v.key u)) e)), q.1), λ q. ((q.0.0, not_zero q.0.0.0), q.1)))
          Hb)
          (same_or b (f (v.key x)))

  pub unlinked : (Dir : ℕ → Type 0) → Sound v Dir R 0 → place v (v.key x) < v.buckets → Dir (parent (v.key x)) → Sound (unlink v x) Dir R x
  unlinked Dir S hb dir = record {
    max_room = S.max_room;
    count_one = S.count_one;
    count_max = S.count_max;
    removed =
        head_kept v.coll (cut_next v.coll (bucket_before v x) (v.coll x)) R
        (cut_other v.coll (bucket_before v x) (v.coll x) 0 (λ n e. n (sym e)))
        (λ y m. cut_other v.coll (bucket_before v x) (v.coll x) y
        (λ n (e : y ≡ bucket_before v x). (cut_here (place v) v.coll v.hash HB (bucket_before v x) eb n).0.0.2 (subst (λ z. z ∈ R) e m)))
        S.removed;
    removed_below = S.removed_below;
    bucket = λ b h. cut_list (place v) v.coll v.hash HB (bucket_before v x) eb b (S.bucket b h);
    child = λ p h. cut_list parent v.next v.head HC (child_before v x) ec p (S.child p h);
    keys = λ y z hy hz e. S.keys y z (hy.0, not_zero hy.0.0) (hz.0, not_zero hz.0.0) e;
    parents = λ y hy n. S.parents y (hy.0, not_zero hy.0.0) n;
  }
    where
      HB : Holds v.coll (v.hash (place v (v.key x))) (λ y. Here v R 0 y × (place v (v.key y) ≡ place v (v.key x)))
      HB = S.bucket (place v (v.key x)) hb

      HC : Holds v.next (v.head (parent (v.key x))) (λ y. Here v R 0 y × (parent (v.key y) ≡ parent (v.key x)))
      HC = S.child (parent (v.key x)) dir

      eb : bucket_before v x ≡ before x 0 HB.0
      eb = cut_is (place v) v.coll v.hash HB

      ec : child_before v x ≡ before x 0 HC.0
      ec = cut_is parent v.next v.head HC

  -- the next field changes only in the children of x's parent
  pub unlinked_next : (Dir : ℕ → Type 0) → Sound v Dir R 0 → Dir (parent (v.key x)) → (y : ℕ) → parent (v.key y) ≢ parent (v.key x) → (unlink v x).next y ≡ v.next y
  unlinked_next Dir S dir y n =
      cut_other v.next (child_before v x) (v.next x) y
      (λ z (e : y ≡ child_before v x).
      n (ap (λ w. parent (v.key w)) e
      ∙ (cut_here parent v.next v.head (S.child (parent (v.key x)) dir) (child_before v x) (cut_is parent v.next v.head (S.child (parent (v.key x)) dir)) z).1))

-- ---- entries taken and given up: the buckets and child lists stay as they are

abbrev pub other : View → ℕ → (ℕ → ℕ) → (ℕ → ℕ) → (ℕ → List ℕ) → View
other v c coll next key = record {
  buckets = v.buckets;
  room = v.room;
  root = v.root;
  count = c;
  maximum = v.maximum;
  hash = v.hash;
  coll = coll;
  next = next;
  head = v.head;
  key = key;
}

module _ (v : View) (Dir : ℕ → Type 0) (R R' : List ℕ) (x x' c : ℕ) (coll next : ℕ → ℕ) (key : ℕ → List ℕ) (S : Sound v Dir R x)
    (here : (y : ℕ) → Here v R x y ↔ Here (other v c coll next key) R' x' y)
    (coll_same : (y : ℕ) → Here v R x y → coll y ≡ v.coll y)
    (next_same : (y : ℕ) → Here v R x y → next y ≡ v.next y)
    (key_same : (y : ℕ) → Here v R x y → key y ≡ v.key y) where
  same_rule : (f : List ℕ → ℕ) (b y : ℕ) → (Here v R x y × (f (v.key y) ≡ b)) ↔ (Here (other v c coll next key) R' x' y × (f (key y) ≡ b))
  same_rule f b y = (
    λ q. ((here y).0 q.0, ap f (key_same y q.0) ∙ q.1),
    λ q. ((here y).1 q.0, sym (ap f (key_same y ((here y).1 q.0))) ∙ q.1),
  )

  pub moved : 1 ≤ c → c ≤ v.maximum → Links coll (coll 0) R' → ((y : ℕ) → y ∈ R' → y < c) → Sound (other v c coll next key) Dir R' x'
  moved c1 cm l rb = record {
    max_room = S.max_room;
    count_one = c1;
    count_max = cm;
    removed = l;
    removed_below = rb;
    bucket = λ b h.
        holds_kept v.coll coll (λ y. Here v R x y × (place v (v.key y) ≡ b)) (λ y. Here (other v c coll next key) R' x' y × (place v (key y) ≡ b))
        (v.hash b) (v.hash b) refl (λ y q. coll_same y q.0) (same_rule (place v) b) (S.bucket b h);
    child = λ p h.
        holds_kept v.next next (λ y. Here v R x y × (parent (v.key y) ≡ p)) (λ y. Here (other v c coll next key) R' x' y × (parent (key y) ≡ p))
        (v.head p) (v.head p) refl (λ y q. next_same y q.0) (same_rule parent p) (S.child p h);
    keys = λ y z hy hz e.
        S.keys y z ((here y).1 hy) ((here z).1 hz) (sym (key_same y ((here y).1 hy)) ∙ e ∙ key_same z ((here z).1 hz));
    parents = λ y hy n.
        subst (λ u. Dir (parent u)) (sym (key_same y ((here y).1 hy))) (S.parents y ((here y).1 hy) n);
  }

-- the first removed entry is taken
pub took_removed : (v : View) (Dir : ℕ → Type 0) (R : List ℕ) (x : ℕ) → Sound v Dir (x ∷ R) 0
    → Sound (other v v.count (upd v.coll 0 (v.coll x)) v.next v.key) Dir R x
took_removed v Dir R x S =
    moved v Dir (x ∷ R) R 0 x v.count (upd v.coll 0 (v.coll x)) v.next v.key S
    (λ y. (
      λ q. ((q.0.0, q.0.1, λ (m : y ∈ R). q.0.2 (inr m)), λ (e : y ≡ x). q.0.2 (inl e)),
      λ q. ((q.0.0, q.0.1, ⊎_elim (λ (e : y ≡ x). q.1 e) (λ (m : y ∈ R). q.0.2 m)), not_zero q.0.0),
    ))
    (λ y q. upd_other v.coll 0 (v.coll x) y q.1)
    (λ y q. refl)
    (λ y q. refl)
    S.count_one S.count_max
    (subst (λ z. Links (upd v.coll 0 (v.coll x)) z R) (sym (upd_same v.coll 0 (v.coll x) 0 refl))
    (kept v.coll (upd v.coll 0 (v.coll x)) (v.coll x) R
    (λ y m. upd_other v.coll 0 (v.coll x) y (not_zero (positive v.coll (v.coll x) R S.removed.2 y m)))
    S.removed.2))
    (λ y m. S.removed_below y (inr m))

-- an entry never used is taken
pub took_new : (v : View) (Dir : ℕ → Type 0) → Sound v Dir [] 0 → v.count < v.maximum
    → Sound (other v (v.count + 1) v.coll v.next v.key) Dir [] v.count
took_new v Dir S h =
    moved v Dir [] [] 0 v.count (v.count + 1) v.coll v.next v.key S
    (λ y. (
      λ q. ((q.0.0, let a : y < v.count = q.0.1 in omega arith, λ m. m), λ (e : y ≡ v.count). let a : y < v.count = q.0.1 in omega arith),
      λ q. ((q.0.0, let a : y < v.count + 1 = q.0.1 in let b : y ≢ v.count = q.1 in omega arith, λ m. m), not_zero q.0.0),
    ))
    (λ y q. refl) (λ y q. refl) (λ y q. refl)
    (omega arith) (omega arith) S.removed (λ y m. absurd m)

-- x, which stands in no list, is given up, whatever becomes of its words but the collision field
pub given_up : (v : View) (Dir : ℕ → Type 0) (R : List ℕ) (x : ℕ) → Live v.count R x → Sound v Dir R x → (next : ℕ → ℕ) (key : ℕ → List ℕ)
    → ((y : ℕ) → y ≢ x → next y ≡ v.next y) → ((y : ℕ) → y ≢ x → key y ≡ v.key y)
    → Sound (other v v.count (upd (upd v.coll x (v.coll 0)) 0 x) next key) Dir (x ∷ R) 0
given_up v Dir R x lx S next key en ek =
    moved v Dir R (x ∷ R) x 0 v.count (upd (upd v.coll x (v.coll 0)) 0 x) next key S
    (λ y. (
      λ q. ((q.0.0, q.0.1, ⊎_elim (λ (e : y ≡ x). q.1 e) (λ (m : y ∈ R). q.0.2 m)), not_zero q.0.0),
      λ q. ((q.0.0, q.0.1, λ (m : y ∈ R). q.0.2 (inr m)), λ (e : y ≡ x). q.0.2 (inl e)),
    ))
    (λ y q. same y q.0.0 q.1)
    (λ y q. en y q.1)
    (λ y q. ek y q.1)
    S.count_one S.count_max (
      upd_same (upd v.coll x (v.coll 0)) 0 x 0 refl,
      lx.0,
      subst (λ z. Links c z R) (sym (upd_other (upd v.coll x (v.coll 0)) 0 x x (not_zero lx.0) ∙ upd_same v.coll x (v.coll 0) x refl))
          (kept v.coll c (v.coll 0) R
          (λ y m. same y (positive v.coll (v.coll 0) R S.removed y m) (λ (e : y ≡ x). lx.2 (subst (λ z. z ∈ R) e m)))
          S.removed),
    )
    (λ y. ⊎_elim (λ (e : y ≡ x). let a : x < v.count = lx.1 in omega arith) (λ (m : y ∈ R). S.removed_below y m))
  where
    c : ℕ → ℕ
    c = upd (upd v.coll x (v.coll 0)) 0 x

    same : (y : ℕ) → 0 < y → y ≢ x → upd (upd v.coll x (v.coll 0)) 0 x y ≡ v.coll y
    same y p n = upd_other (upd v.coll x (v.coll 0)) 0 x y (not_zero p) ∙ upd_other v.coll x (v.coll 0) y n

-- ---- the steps as functions

abbrev pub take : View → View
take v =
    other v (pick (eqb (v.coll 0) 0) (v.count + 1) v.count)
    (pick (eqb (v.coll 0) 0) v.coll (upd v.coll 0 (v.coll (v.coll 0)))) v.next v.key

-- the removed list after that
abbrev pub rest : List ℕ → List ℕ
rest [] = []
rest (x ∷ R) = R

-- x's entry is overwritten with entry 0's, and x is the first removed one
abbrev pub give : View → ℕ → View
give v x =
    other v v.count (upd (upd v.coll x (v.coll 0)) 0 x) (upd v.next x (v.next 0)) (upd v.key x (v.key 0))

-- there is an entry to take
abbrev pub Space : View → Type 0
Space v = (v.coll 0 ≢ 0) ⊎ (v.count < v.maximum)

pub took : (v : View) (Dir : ℕ → Type 0) (R : List ℕ) → Sound v Dir R 0 → Space v → Sound (take v) Dir (rest R) (taken v)
took v Dir [] S s =
    by_eq (v.coll 0) 0
    (λ t. Sound (other v (pick t (v.count + 1) v.count) (pick t v.coll (upd v.coll 0 (v.coll (v.coll 0)))) v.next v.key) Dir [] (pick t v.count (v.coll 0)))
    (λ e. took_new v Dir S (⊎_elim (λ (n : v.coll 0 ≢ 0). absurd (n e)) (λ (h : v.count < v.maximum). h) s))
    (λ n. absurd (n S.removed))
took v Dir (x ∷ R) S s =
    by_eq (v.coll 0) 0
    (λ t. Sound (other v (pick t (v.count + 1) v.count) (pick t v.coll (upd v.coll 0 (v.coll (v.coll 0)))) v.next v.key) Dir R (pick t v.count (v.coll 0)))
    (λ e. absurd (not_zero S.removed.1 (sym S.removed.0 ∙ e)))
    (λ n.
    subst (λ z. Sound (other v v.count (upd v.coll 0 (v.coll z)) v.next v.key) Dir R z) (sym S.removed.0) (took_removed v Dir R x S))

-- t is live with count c and removed list R', and was not; the others are as they were
abbrev pub Took : View → List ℕ → List ℕ → ℕ → ℕ → Type 0
Took v R R' t c =
    ((0 < t) × (t < c) × (t ∈ R' → ⊥)) × (Live v.count R t → ⊥)
    × ((y : ℕ) → ((0 < y) × (y < c) × (y ∈ R' → ⊥)) ↔ ((y ≡ t) ⊎ ((y ≢ t) × Live v.count R y)))

pub took_live : (v : View) (Dir : ℕ → Type 0) (R : List ℕ) → Sound v Dir R 0 → Took v R (rest R) (taken v) (take v).count
took_live v Dir [] S =
    by_eq (v.coll 0) 0 (λ t. Took v [] [] (pick t v.count (v.coll 0)) (pick t (v.count + 1) v.count))
    (λ e. (
      ((let h : 1 ≤ v.count = S.count_one in omega arith), omega arith, λ m. m),
      (λ q. let h : v.count < v.count = q.1 in omega arith),
      λ y. (
        λ q. ⊎_elim (λ (w : y ≡ v.count). inl w) (λ (w : y ≢ v.count). inr (w, (q.0, (let h : y < v.count + 1 = q.1 in omega arith), λ m. m))) (same_or y v.count),
        ⊎_elim
            (λ (w : y ≡ v.count). (let h : 1 ≤ v.count = S.count_one in omega arith, omega arith, λ m. m))
            (λ (w : (y ≢ v.count) × Live v.count [] y). (w.1.0, (let h : y < v.count = w.1.1 in omega arith), λ m. m)),
      ),
    ))
    (λ n. absurd (n S.removed))
took_live v Dir (x ∷ R) S =
    by_eq (v.coll 0) 0 (λ t. Took v (x ∷ R) R (pick t v.count (v.coll 0)) (pick t (v.count + 1) v.count))
    (λ e. absurd (not_zero S.removed.1 (sym S.removed.0 ∙ e)))
    (λ n.
    subst (λ z. Took v (x ∷ R) R z v.count) (sym S.removed.0) (
      (S.removed.1, S.removed_below x (inl refl), (distinct v.coll (v.coll 0) (x ∷ R) S.removed).0),
      (λ q. q.2 (inl refl)),
      λ y. (
        λ q. ⊎_elim (λ (w : y ≡ x). inl w) (λ (w : y ≢ x). inr (w, (q.0, q.1, ⊎_elim (λ (r : y ≡ x). w r) (λ (m : y ∈ R). q.2 m)))) (same_or y x),
        ⊎_elim
            (λ (w : y ≡ x). subst (λ z. (0 < z) × (z < v.count) × (z ∈ R → ⊥)) (sym w) (S.removed.1, S.removed_below x (inl refl), (distinct v.coll (v.coll 0) (x ∷ R) S.removed).0))
            (λ (w : (y ≢ x) × Live v.count (x ∷ R) y). (w.1.0, w.1.1, λ (m : y ∈ R). w.1.2 (inr m))),
      ),
    ))

pub gave : (v : View) (Dir : ℕ → Type 0) (R : List ℕ) (x : ℕ) → Live v.count R x → Sound v Dir R x → Sound (give v x) Dir (x ∷ R) 0
gave v Dir R x lx S =
    given_up v Dir R x lx S (upd v.next x (v.next 0)) (upd v.key x (v.key 0))
    (λ y n. upd_other v.next x (v.next 0) y n) (λ y n. upd_other v.key x (v.key 0) y n)

pub gave_live : (v : View) (R : List ℕ) (x y : ℕ) → Live v.count (x ∷ R) y ↔ (Live v.count R y × (y ≢ x))
gave_live v R x y = (
  λ q. ((q.0, q.1, λ (m : y ∈ R). q.2 (inr m)), λ (e : y ≡ x). q.2 (inl e)),
  λ q. (q.0.0, q.0.1, ⊎_elim (λ (e : y ≡ x). q.1 e) (λ (m : y ∈ R). q.0.2 m)),
)

-- ---- the lists by a walk

module _ (v : View) (Dir : ℕ → Type 0) (R : List ℕ) (S : Sound v Dir R 0) where
  -- the removed list is what a walk finds
  pub removed_is : removed_of v ≡ R
  removed_is =
      walked v.coll v.count (v.coll 0) R S.removed
      (let h : length R < v.count = fewer v.coll v.count (v.coll 0) R S.count_one S.removed S.removed_below in omega arith)

  -- and so is any list of live entries
  pub walk_is : (next : ℕ → ℕ) (h : ℕ) (P : ℕ → Type 0) → (H : Holds next h (λ y. Here v R 0 y × P y)) → walk next v.count h ≡ H.0
  walk_is next h P H =
      walked next v.count h H.0 H.1
      (let q : length H.0 < v.count = fewer next v.count h H.0 S.count_one H.1 (λ y m. ((H.2 y).0 m).0.0.1) in omega arith)
