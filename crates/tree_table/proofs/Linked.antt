-- One table's rule with one loose entry, and the step on views that enters an entry: link.
use mathlib.Core.Path.{◌≡◌, refl, sym, ap, ◌∙◌, subst}
use mathlib.Core.List.{List}
use mathlib.Core.Logic.{inl, inr, ⊎_elim, ◌≢◌}
use Prim.Native.Nat.{ℕ, ◌≤◌, ◌<◌}
use native.Mathlib.Omega.{arith}
use Rattle.links.specs.Links.{◌∈◌, Links, Holds}
use Rattle.links.specs.Change.{upd}
use Rattle.links.proofs.Laws.{kept}
use Rattle.links.proofs.Held.{same_or, upd_same, upd_other, holds_kept, holds_pushed}
use Rattle.tree_table.specs.View.{View, parent, place, Live}

-- live, and not the one that is out of its lists
abbrev pub Here : View → List ℕ → ℕ → ℕ → Type 0
Here v R x y = Live v.count R y × (y ≢ x)

-- the rules of one table (RULES 5.7), with `Dir` the live directories, R the removed list, and x the one live entry that stands in no bucket and no child list; 0 for none
pub record Sound (v : View) (Dir : ℕ → Type 0) (R : List ℕ) (x : ℕ) : Type 0 where
  pub max_room : v.maximum ≤ v.room
  pub count_one : 1 ≤ v.count
  pub count_max : v.count ≤ v.maximum
  pub removed : Links v.coll (v.coll 0) R
  pub removed_below : (y : ℕ) → y ∈ R → y < v.count
  pub bucket : (b : ℕ) → b < v.buckets → Holds v.coll (v.hash b) (λ y. Here v R x y × (place v (v.key y) ≡ b))
  pub child : (p : ℕ) → Dir p → Holds v.next (v.head p) (λ y. Here v R x y × (parent (v.key y) ≡ p))
  pub keys : (y z : ℕ) → Here v R x y → Here v R x z → v.key y ≡ v.key z → y ≡ z
  pub parents : (y : ℕ) → Here v R x y → y ≢ v.root → Dir (parent (v.key y))

-- a removed list stays one where nothing changes from 0 on and along it
pub head_kept : (next next' : ℕ → ℕ) (R : List ℕ) → next' 0 ≡ next 0 → ((y : ℕ) → y ∈ R → next' y ≡ next y) → Links next (next 0) R → Links next' (next' 0) R
head_kept next next' R e k l = subst (λ z. Links next' z R) (sym e) (kept next next' (next 0) R k l)

-- ---- link: x gets its key, and is put in front of its bucket and of its parent's list

abbrev pub link : View → ℕ → List ℕ → View
link v x k = record {
  buckets = v.buckets;
  room = v.room;
  root = v.root;
  count = v.count;
  maximum = v.maximum;
  hash = upd v.hash (place v k) x;
  coll = upd v.coll x (v.hash (place v k));
  next = upd v.next x (v.head (parent k));
  head = upd v.head (parent k) x;
  key = upd v.key x k;
}

module _ (v : View) (R : List ℕ) (x : ℕ) (k : List ℕ) (lx : Live v.count R x) where
  -- the lists of any part f of the key, headed by `head` and threaded through `next`
  link_list : (f : List ℕ → ℕ) (next head : ℕ → ℕ) (b : ℕ) → Holds next (head b) (λ y. Here v R x y × (f (v.key y) ≡ b))
      → Holds (upd next x (head (f k))) (upd head (f k) x b) (λ y. Here v R 0 y × (f (upd v.key x k y) ≡ b))
  link_list f next head b H = ⊎_elim front other (same_or b (f k))
    where
      P : ℕ → Type 0
      P y = Here v R x y × (f (v.key y) ≡ b)

      P' : ℕ → Type 0
      P' y = Here v R 0 y × (f (upd v.key x k y) ≡ b)

      nz : (y : ℕ) → Live v.count R y → y ≢ 0
      nz y l e = let p : 0 < y = l.0 in omega arith

      same : (y : ℕ) → P y → upd next x (head (f k)) y ≡ next y
      same y q = upd_other next x (head (f k)) y q.0.1

      up : (y : ℕ) → P y → P' y
      up y q = ((q.0.0, nz y q.0.0), ap f (upd_other v.key x k y q.0.1) ∙ q.1)

      down : (y : ℕ) → y ≢ x → P' y → P y
      down y n q = ((q.0.0, n), sym (ap f (upd_other v.key x k y n)) ∙ q.1)

      front : b ≡ f k → Holds (upd next x (head (f k))) (upd head (f k) x b) P'
      front e =
          holds_pushed next (upd next x (head (f k))) P P' (head b) (upd head (f k) x b) x lx.0
          (upd_same head (f k) x b e) (upd_same next x (head (f k)) x refl ∙ ap head (sym e)) same
          (λ y q. ⊎_elim (λ (r : y ≡ x). inl r) (λ (n : y ≢ x). inr (down y n q)) (same_or y x))
          (λ y. ⊎_elim
          (λ (r : y ≡ x). ((subst (λ z. Live v.count R z) (sym r) lx, nz y (subst (λ z. Live v.count R z) (sym r) lx)), ap f (upd_same v.key x k y r) ∙ sym e))
          (up y))
          H

      other : b ≢ f k → Holds (upd next x (head (f k))) (upd head (f k) x b) P'
      other n =
          holds_kept next (upd next x (head (f k))) P P' (head b) (upd head (f k) x b) (upd_other head (f k) x b n) same
          (λ y. (up y, λ q. down y (λ (r : y ≡ x). n (sym q.1 ∙ ap f (upd_same v.key x k y r))) q)) H

  pub linked : (Dir : ℕ → Type 0) → Sound v Dir R x → ((y : ℕ) → Here v R x y → v.key y ≢ k) → Dir (parent k) → Sound (link v x k) Dir R 0
  linked Dir S fresh dir = record {
    max_room = S.max_room;
    count_one = S.count_one;
    count_max = S.count_max;
    removed =
        head_kept v.coll (upd v.coll x (v.hash (place v k))) R
        (upd_other v.coll x (v.hash (place v k)) 0 (λ (e : 0 ≡ x). let p : 0 < x = lx.0 in omega arith))
        (λ y m. upd_other v.coll x (v.hash (place v k)) y (λ (e : y ≡ x). lx.2 (subst (λ z. z ∈ R) e m)))
        S.removed;
    removed_below = S.removed_below;
    bucket = λ b h. link_list (place v) v.coll v.hash b (S.bucket b h);
    child = λ p h. link_list parent v.next v.head p (S.child p h);
    keys = λ y z hy hz e.
        ⊎_elim
        (λ (p : y ≡ x).
        ⊎_elim (λ (q : z ≡ x). p ∙ sym q)
        (λ (q : z ≢ x).
        absurd (fresh z (hz.0, q) (sym (upd_other v.key x k z q) ∙ sym e ∙ upd_same v.key x k y p)))
        (same_or z x))
        (λ (p : y ≢ x).
        ⊎_elim
        (λ (q : z ≡ x).
        absurd (fresh y (hy.0, p) (sym (upd_other v.key x k y p) ∙ e ∙ upd_same v.key x k z q)))
        (λ (q : z ≢ x).
        S.keys y z (hy.0, p) (hz.0, q) (sym (upd_other v.key x k y p) ∙ e ∙ upd_other v.key x k z q))
        (same_or z x))
        (same_or y x);
    parents = λ y hy n.
        ⊎_elim
        (λ (p : y ≡ x). subst (λ z. Dir (parent z)) (sym (upd_same v.key x k y p)) dir)
        (λ (p : y ≢ x). subst (λ z. Dir (parent z)) (sym (upd_other v.key x k y p)) (S.parents y (hy.0, p) n))
        (same_or y x);
  }
