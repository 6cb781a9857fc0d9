-- Two views that the rule can't tell apart: they may differ in the key and the lists of entry 0.
use mathlib.Core.Path.{◌≡◌, refl, sym, ap, ap₂, ◌∙◌, subst}
use mathlib.Core.List.{List, [], ◌∷◌}
use mathlib.Core.Logic.{◌↔◌}
use Prim.Native.Nat.{ℕ, ◌%◌, ◌≤◌, ◌<◌}
use native.Mathlib.Omega.{arith}
use Rattle.links.specs.Links.{Links}
use Rattle.links.specs.Change.{pick, upd}
use Rattle.links.proofs.Laws.{by_eq, kept}
use Rattle.links.proofs.Held.{holds_kept}
use Rattle.tree_key.specs.Hash.{hash_of}
use Rattle.tree_table.specs.View.{View, parent, place, view_of, Live}
use Rattle.tree_table.proofs.Linked.{Here, Sound, link}

pub record Agree (v v' : View) : Type 0 where
  pub buckets : v'.buckets ≡ v.buckets
  pub room : v'.room ≡ v.room
  pub root : v'.root ≡ v.root
  pub count : v'.count ≡ v.count
  pub maximum : v'.maximum ≡ v.maximum
  pub hash : (b : ℕ) → v'.hash b ≡ v.hash b
  pub coll : (y : ℕ) → v'.coll y ≡ v.coll y
  pub next : (y : ℕ) → 0 < y → v'.next y ≡ v.next y
  pub head : (y : ℕ) → 0 < y → v'.head y ≡ v.head y
  pub key : (y : ℕ) → 0 < y → v'.key y ≡ v.key y

module _ (v v' : View) (A : Agree v v') (R : List ℕ) where
  pub live_agree : (y : ℕ) → Live v.count R y ↔ Live v'.count R y
  live_agree y = (
    λ q. (q.0, subst (λ n. y < n) (sym A.count) q.1, q.2),
    λ q. (q.0, subst (λ n. y < n) A.count q.1, q.2),
  )

  module _ (x : ℕ) where
    here_agree : (y : ℕ) → Here v R x y ↔ Here v' R x y
    here_agree y = (λ q. ((live_agree y).0 q.0, q.1), λ q. ((live_agree y).1 q.0, q.1))

    pub sound_agree : (Dir Dir' : ℕ → Type 0) → ((p : ℕ) → Dir p ↔ Dir' p) → ((p : ℕ) → Dir p → 0 < p) → Sound v Dir R x → Sound v' Dir' R x
    sound_agree Dir Dir' d pos S = record {
      max_room = subst (λ n. n ≤ v'.room) (sym A.maximum) (subst (λ n. v.maximum ≤ n) (sym A.room) S.max_room);
      count_one = subst (λ n. 1 ≤ n) (sym A.count) S.count_one;
      count_max = subst (λ n. n ≤ v'.maximum) (sym A.count) (subst (λ n. v.count ≤ n) (sym A.maximum) S.count_max);
      removed = subst (λ z. Links v'.coll z R) (sym (A.coll 0)) (kept v.coll v'.coll (v.coll 0) R (λ y _. A.coll y) S.removed);
      removed_below = λ y m. subst (λ n. y < n) (sym A.count) (S.removed_below y m);
      bucket = λ b h.
          holds_kept v.coll v'.coll (λ y. Here v R x y × (place v (v.key y) ≡ b)) (λ y. Here v' R x y × (place v' (v'.key y) ≡ b))
          (v.hash b) (v'.hash b) (A.hash b) (λ y _. A.coll y)
          (λ y. (λ q. ((here_agree y).0 q.0, at_place y q.0.0.0 ∙ q.1), λ q. ((here_agree y).1 q.0, sym (at_place y q.0.0.0) ∙ q.1)))
          (S.bucket b (subst (λ n. b < n) A.buckets h));
      child = λ p h.
          let dp : Dir p = (d p).1 h in
          holds_kept v.next v'.next (λ y. Here v R x y × (parent (v.key y) ≡ p)) (λ y. Here v' R x y × (parent (v'.key y) ≡ p))
          (v.head p) (v'.head p) (A.head p (pos p dp)) (λ y q. A.next y q.0.0.0)
          (λ y. (λ q. ((here_agree y).0 q.0, ap parent (A.key y q.0.0.0) ∙ q.1), λ q. ((here_agree y).1 q.0, sym (ap parent (A.key y q.0.0.0)) ∙ q.1)))
          (S.child p dp);
      keys = λ y z hy hz e.
          S.keys y z ((here_agree y).1 hy) ((here_agree z).1 hz) (sym (A.key y hy.0.0) ∙ e ∙ A.key z hz.0.0);
      parents = λ y hy n.
          (d (parent (v'.key y))).0 (subst (λ k. Dir (parent k)) (sym (A.key y hy.0.0)) (S.parents y ((here_agree y).1 hy) (λ (e : y ≡ v.root). n (e ∙ sym A.root))));
    }
      where
        at_place : (y : ℕ) → 0 < y → place v' (v'.key y) ≡ place v (v.key y)
        at_place y h = ap₂ (λ k n. hash_of k % n) (A.key y h) A.buckets

pub keys5 : (f1 g1 g2 g3 g4 g5 : ℕ → ℕ) (x k0 k1 k2 k3 k4 y : ℕ) → f1 y ≡ g1 y
    → upd f1 x k0 y ∷ upd g2 x k1 y ∷ upd g3 x k2 y ∷ upd g4 x k3 y ∷ upd g5 x k4 y ∷ []
    ≡ upd (λ z. g1 z ∷ g2 z ∷ g3 z ∷ g4 z ∷ g5 z ∷ []) x (k0 ∷ k1 ∷ k2 ∷ k3 ∷ k4 ∷ []) y
keys5 f1 g1 g2 g3 g4 g5 x k0 k1 k2 k3 k4 y e =
    by_eq y x (λ t. pick t k0 (f1 y) ∷ pick t k1 (g2 y) ∷ pick t k2 (g3 y) ∷ pick t k3 (g4 y) ∷ pick t k4 (g5 y) ∷ []
    ≡ pick t (k0 ∷ k1 ∷ k2 ∷ k3 ∷ k4 ∷ []) (g1 y ∷ g2 y ∷ g3 y ∷ g4 y ∷ g5 y ∷ []))
    (λ _. refl) (λ _. ap (λ z. z ∷ g2 y ∷ g3 y ∷ g4 y ∷ g5 y ∷ []) e)

pub agree_refl : (v : View) → Agree v v
agree_refl v = record { buckets = refl; room = refl; root = refl; count = refl; maximum = refl; hash = λ b. refl; coll = λ y. refl; next = λ y _. refl; head = λ y _. refl; key = λ y _. refl }

pub agree_trans : (a b c : View) → Agree a b → Agree b c → Agree a c
agree_trans a b c A B = record {
  buckets = B.buckets ∙ A.buckets;
  room = B.room ∙ A.room;
  root = B.root ∙ A.root;
  count = B.count ∙ A.count;
  maximum = B.maximum ∙ A.maximum;
  hash = λ y. B.hash y ∙ A.hash y;
  coll = λ y. B.coll y ∙ A.coll y;
  next = λ y h. B.next y h ∙ A.next y h;
  head = λ y h. B.head y h ∙ A.head y h;
  key = λ y h. B.key y h ∙ A.key y h;
}

upd_like : {A : Type 0} (f g : ℕ → A) (i j : ℕ) (a b : A) (y : ℕ) → i ≡ j → a ≡ b → f y ≡ g y → upd f i a y ≡ upd g j b y
upd_like f g i j a b y ei ea ef =
    ap (λ z. upd f z a y) ei ∙ by_eq y j (λ t. pick t a (f y) ≡ pick t b (g y)) (λ _. ea) (λ _. ef)

-- link goes by what the rule can tell
pub link_agree : (v v' : View) (x : ℕ) (k : List ℕ) → 0 < parent k → Agree v v' → Agree (link v x k) (link v' x k)
link_agree v v' x k hp A = record {
  buckets = A.buckets;
  room = A.room;
  root = A.root;
  count = A.count;
  maximum = A.maximum;
  hash = λ b. upd_like v'.hash v.hash (place v' k) (place v k) x x b pl refl (A.hash b);
  coll = λ y. upd_like v'.coll v.coll x x (v'.hash (place v' k)) (v.hash (place v k)) y refl (A.hash (place v' k) ∙ ap v.hash pl) (A.coll y);
  next = λ y h. upd_like v'.next v.next x x (v'.head (parent k)) (v.head (parent k)) y refl (A.head (parent k) hp) (A.next y h);
  head = λ y h. upd_like v'.head v.head (parent k) (parent k) x x y refl refl (A.head y h);
  key = λ y h. upd_like v'.key v.key x x k k y refl refl (A.key y h);
}
  where
    pl : place v' k ≡ place v k
    pl = ap (λ n. hash_of k % n) A.buckets

-- one table's words, 1 to 6 and 0
pub table_alike : (n r o : ℕ) (n' r' : ℕ) (m m' : ℕ → ℕ → ℕ) (h h' hd hd' : ℕ → ℕ) → n' ≡ n → r' ≡ r
    → ((y g : ℕ) → g ≤ 6 → m' y g ≡ m y g) → ((b : ℕ) → h' b ≡ h b) → ((p : ℕ) → hd' p ≡ hd p)
    → Agree (view_of n r o m h hd) (view_of n' r' o m' h' hd')
table_alike n r o n' r' m m' h h' hd hd' en er em eh ed = record {
  buckets = en;
  room = er;
  root = refl;
  count = em 0 1 (omega arith);
  maximum = em 0 2 (omega arith);
  hash = eh;
  coll = λ y. em y 0 (omega arith);
  next = λ y _. em y 6 (omega arith);
  head = λ y _. ed y;
  key = λ y _.
      let a = em y 1 (omega arith) in let b = em y 2 (omega arith) in let c = em y 3 (omega arith) in let d = em y 4 (omega arith) in let e = em y 5 (omega arith) in
      cc;
}
