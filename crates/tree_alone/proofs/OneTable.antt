-- What the walks over one table find out makes it sound by itself, and the reverse.
use mathlib.Core.Path.{◌≡◌, refl, sym, ap, ◌∙◌, subst}
use mathlib.Core.List.{List, [], ◌∷◌}
use mathlib.Core.Logic.{◌⊎◌, inl, inr, ⊎_elim, ◌≢◌}
use Prim.Native.Nat.{ℕ, ◌+◌, ◌-◌, ◌≤◌, ◌<◌}
use native.Mathlib.Omega.{arith}
use native.Mathlib.Nat.{mod-lt}
use lib.ListN.{length}
use Rattle.links.specs.Links.{◌∈◌, Links, Holds}
use Rattle.links.proofs.Laws.{one_list, positive, after, distinct, walked, fewer}
use Rattle.links.proofs.Held.{same_or, holds_kept}
use Rattle.tree_key.specs.Hash.{hash_of}
use Rattle.tree_table.specs.View.{View, place, removed_of, Live, LiveIn}
use Rattle.tree_marks.specs.Inner.Marks.{gone, mark_at, Unmarked, Marked}
use Rattle.tree_marks.specs.Inner.Gather.{Gathered, any, GoneKept}
use Rattle.tree_marks.proofs.Walks.{le_or_lt}
use Rattle.tree_marks.proofs.Gathering.{in_or, gathered, gathered_ok}
use Rattle.tree_sound.specs.Sound.{Table}
use Rattle.tree_alone.specs.Inner.Stage.{OnlyGone}

-- of two entries of a list, one is the other or stands behind it
order : (next : ℕ → ℕ) (h : ℕ) (xs : List ℕ) → Links next h xs → (y z : ℕ) → y ∈ xs → z ∈ xs
    → (y ≡ z) ⊎ (((ys : List ℕ) × Links next (next y) ys × (z ∈ ys)) ⊎ ((ys : List ℕ) × Links next (next z) ys × (y ∈ ys)))
order next h [] l y z x3 _ = elim x3 [ ]
order next h (a ∷ xs) l y z (inl p) (inl q) = inl (p ∙ sym q)
order next h (a ∷ xs) l y z (inl p) (inr m) = inr (inl (xs, subst (λ u. Links next (next u) xs) (sym p) l.2, m))
order next h (a ∷ xs) l y z (inr m) (inl q) = inr (inr (xs, subst (λ u. Links next (next u) xs) (sym q) l.2, m))
order next h (a ∷ xs) l y z (inr m) (inr k) = order next (next a) xs l.2 y z m k

-- a removed list that ends below count is what a walk finds
pub removed_is : (v : View) (R : List ℕ) → Links v.coll (v.coll 0) R → ((y : ℕ) → y ∈ R → y < v.count) → 1 ≤ v.count → removed_of v ≡ R
removed_is v R l b h =
    walked v.coll v.count (v.coll 0) R l
    (let q : length R < v.count = fewer v.coll v.count (v.coll 0) R h l b in omega arith)

-- ---- the removed entries

module _ (v : View) (h : ℕ → ℕ) (W W' : ℕ → ℕ) (zero_marks : (y : ℕ) → W y ≡ 0) where
  pub removed_marks : (xs : List ℕ) → Links v.coll (v.coll 0) xs → Unmarked v.count W xs → Marked W W' gone xs → Gathered v.coll v.count h any xs 1 W'
  removed_marks xs l f M = record {
    removed = λ y. (
      λ m. M.marked y m,
      λ (e : W' y ≡ gone).
          ⊎_elim (λ (m : y ∈ xs). m) (λ (m : y ∈ xs → ⊥). absurd (let a : W' y ≡ W y = M.others y m in let b : W y ≡ 0 = zero_marks y in omega arith)) (in_or y xs),
    );
    list = λ j a b. absurd (omega arith);
    below = λ y n.
        ⊎_elim (λ (m : y ∈ xs). (positive v.coll (v.coll 0) xs l y m, (f y m).0)) (λ (m : y ∈ xs → ⊥). absurd (n (M.others y m ∙ zero_marks y))) (in_or y xs);
    only = λ y.
        ⊎_elim (λ (m : y ∈ xs). inr (inl (M.marked y m))) (λ (m : y ∈ xs → ⊥). inl (M.others y m ∙ zero_marks y)) (in_or y xs);
  }

  -- the removed list of a sound table is free
  pub removed_free : Table v → Unmarked v.count W (removed_of v)
  removed_free T y m = (T.removed_below y m, zero_marks y)

-- ---- the buckets: list j starts at h j, and is bucket j - 1

module _ (v : View) (hb : 0 < v.buckets) (hm : v.buckets ≤ 65536) (h : ℕ → ℕ) (eh : (b : ℕ) → h (b + 1) ≡ v.hash b) where
  -- the number that an entry's own hash gives it
  abbrev pub own : ℕ → ℕ
  own y = place v (v.key y) + 1

  pub by_number : Table v → (j : ℕ) → 0 < j → j < v.buckets + 1 → Holds v.coll (h j) (λ y. Live v.count (removed_of v) y × (own y ≡ j))
  by_number T j j0 jn =
      let e : j - 1 + 1 ≡ j = omega arith in
      subst (λ i. Holds v.coll (h i) (λ y. Live v.count (removed_of v) y × (own y ≡ i))) e
      (holds_kept v.coll v.coll (λ y. LiveIn v y × (place v (v.key y) ≡ j - 1)) (λ y. Live v.count (removed_of v) y × (own y ≡ j - 1 + 1))
      (v.hash (j - 1)) (h (j - 1 + 1)) (eh (j - 1)) (λ y _. refl)
      (λ y. (λ q. (q.0, ap (λ n. n + 1) q.1), λ q. let r : place v (v.key y) + 1 ≡ j - 1 + 1 = q.1 in (q.0, omega arith)))
      (T.bucket (j - 1) (omega arith)))

  module _ (R : List ℕ) (W : ℕ → ℕ) (G : Gathered v.coll v.count h any R (v.buckets + 1) W) where
    -- an entry with a bucket's mark has a list behind it
    pub behind : (y : ℕ) → (W y ≡ gone → ⊥) → 0 < W y
        → (zs : List ℕ) × Links v.coll (v.coll y) zs × (length zs < v.count) × ((z : ℕ) → z ∈ zs → z < v.count)
    behind y n p =
        ⊎_elim (λ (e : W y ≡ 0). absurd (omega arith))
        (⊎_elim (λ (e : W y ≡ gone). absurd (n e))
        (λ (q : (0 < W y) × (W y < v.buckets + 1) × any (W y)).
        let L = G.list (W y) q.0 q.1 tt in
        let A = after v.coll (h (W y)) L.0 L.1 y ((L.2 y).1 refl) in
        let low : (z : ℕ) → z ∈ L.0 → z < v.count = λ z m.
        (G.below z (λ (e : W z ≡ 0). let u : W z ≡ W y = (L.2 z).0 m in let q0 : 0 < W y = q.0 in omega arith)).1 in
        let yc : y < v.count = low y ((L.2 y).1 refl) in (
          A.0,
          A.1,
          (let s : length L.0 < v.count = fewer v.coll v.count (h (W y)) L.0 (omega arith) L.1 low in omega (arith, A.2)),
          λ z m. low z (A.3 z m),
        )))
        (G.only y)

    module _ (marks : (y : ℕ) → 0 < y → y < v.count → (W y ≡ gone) ⊎ (W y ≡ own y)) where
      pub buckets_right : (b : ℕ) → b < v.buckets → Holds v.coll (v.hash b) (λ y. Live v.count R y × (place v (v.key y) ≡ b))
      buckets_right b hbb =
          holds_kept v.coll v.coll (λ y. Live v.count R y × (own y ≡ b + 1)) (λ y. Live v.count R y × (place v (v.key y) ≡ b))
          (h (b + 1)) (v.hash b) (sym (eh b)) (λ y _. refl)
          (λ y. (λ q. let e : place v (v.key y) + 1 ≡ b + 1 = q.1 in (q.0, omega arith), λ q. (q.0, ap (λ n. n + 1) q.1)))
          (gathered v.coll v.count h any R (v.buckets + 1) W (omega arith) G own marks (b + 1) (omega arith) (omega arith) tt)

      -- no entry behind a live one in its bucket has its key: live keys are distinct
      pub keys_apart : ((y : ℕ) → Live v.count R y → (zs : List ℕ) → Links v.coll (v.coll y) zs → (z : ℕ) → z ∈ zs → v.key z ≡ v.key y → ⊥)
          → (y z : ℕ) → Live v.count R y → Live v.count R z → v.key y ≡ v.key z → y ≡ z
      keys_apart apart y z hy hz e =
          let H = buckets_right (place v (v.key y)) (mod-lt (hash_of (v.key y)) hb) in
          ⊎_elim (λ (q : y ≡ z). q)
          (⊎_elim
          (λ (q : (ys : List ℕ) × Links v.coll (v.coll y) ys × (z ∈ ys)). absurd (apart y hy q.0 q.1 z q.2 (sym e)))
          (λ (q : (ys : List ℕ) × Links v.coll (v.coll z) ys × (y ∈ ys)). absurd (apart z hz q.0 q.1 y q.2 e)))
          (order v.coll (v.hash (place v (v.key y))) H.0 H.1 y z ((H.2 y).1 (hy, refl)) ((H.2 z).1 (hz, ap (place v) (sym e))))

  -- in a sound table every mark is right
  pub marks_right : Table v → (W : ℕ → ℕ) → Gathered v.coll v.count h any (removed_of v) (v.buckets + 1) W
      → (y : ℕ) → 0 < y → y < v.count → (W y ≡ gone) ⊎ (W y ≡ own y)
  marks_right T W G =
      gathered_ok v.coll v.count h any (removed_of v) (v.buckets + 1) W G own (λ j j0 jn _. by_number T j j0 jn)
      (λ y q. let m : place v (v.key y) < v.buckets = mod-lt (hash_of (v.key y)) hb in (omega arith, omega arith, tt))

  -- and nothing behind an entry has its key
  pub apart_right : Table v → (y : ℕ) → LiveIn v y → (zs : List ℕ) → Links v.coll (v.coll y) zs → (z : ℕ) → z ∈ zs → v.key z ≡ v.key y → ⊥
  apart_right T y ly zs l z m e =
      let H = T.bucket (place v (v.key y)) (mod-lt (hash_of (v.key y)) hb) in
      let A = after v.coll (v.hash (place v (v.key y))) H.0 H.1 y ((H.2 y).1 (ly, refl)) in
      let q : zs ≡ A.0 = one_list v.coll (v.coll y) (v.coll y) zs A.0 refl l A.1 in
      let lz : LiveIn v z = ((H.2 z).0 (A.3 z (subst (λ u. z ∈ u) q m))).0 in
      let s : z ≡ y = T.keys z y lz ly e in
      (distinct v.coll y (y ∷ zs) (refl, ly.0, l)).0 (subst (λ u. u ∈ zs) s m)

-- ---- the marks that stay

pub clean_of : {count off : ℕ} {work work' : List ℕ} (nx head : ℕ → ℕ) (R : List ℕ) (n : ℕ) → Gathered nx count head any R n (mark_at work off) → GoneKept off count work work'
    → ((y : ℕ) → count ≤ y → mark_at work' off y ≡ mark_at work off y) → OnlyGone count R (mark_at work' off)
clean_of {count} {off} {work} {work'} nx head R n G K out = record {
  removed = λ y. (
    λ m. let e = (G.removed y).0 m in K.dead y (G.below y (not_zero y e)).1 e,
    λ (e : mark_at work' off y ≡ gone). ⊎_elim (λ (b : y < count).
        ⊎_elim (λ (g : mark_at work off y ≡ gone). (G.removed y).1 g)
        (λ (g : mark_at work off y ≢ gone). absurd (let z : mark_at work' off y ≡ 0 = K.others y b g in omega arith)) (same_or (mark_at work off y) gone))
        (λ (b : count ≤ y). (G.removed y).1 (sym (out y b) ∙ e)) (lt_or_le y count),
  );
  below = λ y k.
      ⊎_elim (λ (b : y < count).
      ⊎_elim (λ (g : mark_at work off y ≡ gone). G.below y (not_zero y g)) (λ (g : mark_at work off y ≢ gone). absurd (k (K.others y b g))) (same_or (mark_at work off y) gone))
      (λ (b : count ≤ y). G.below y (λ (z : mark_at work off y ≡ 0). k (out y b ∙ z))) (lt_or_le y count);
  only = λ y.
      ⊎_elim (λ (b : y < count).
      ⊎_elim (λ (g : mark_at work off y ≡ gone). inr (K.dead y b g)) (λ (g : mark_at work off y ≢ gone). inl (K.others y b g)) (same_or (mark_at work off y) gone))
      (λ (b : count ≤ y).
      ⊎_elim (λ (z : mark_at work off y ≡ 0). inl (out y b ∙ z)) (λ (z : mark_at work off y ≢ 0). absurd (let l : y < count = (G.below y z).1 in omega arith)) (same_or (mark_at work off y) 0))
      (lt_or_le y count);
}
  where
    not_zero : (y : ℕ) → mark_at work off y ≡ gone → mark_at work off y ≢ 0
    not_zero y e z = omega arith

    lt_or_le : (a b : ℕ) → (a < b) ⊎ (b ≤ a)
    lt_or_le a b = ⊎_elim (λ (k : b ≤ a). inr k) (λ (k : a < b). inl k) (le_or_lt b a)

pub clean_gathered : {count : ℕ} {R : List ℕ} {W : ℕ → ℕ} → OnlyGone count R W → (nx head : ℕ → ℕ) (want : ℕ → Type 0) → Gathered nx count head want R 1 W
clean_gathered C nx head want = record {
  removed = C.removed;
  list = λ j a b. absurd (omega arith);
  below = C.below;
  only = λ y. ⊎_elim (λ z. inl z) (λ g. inr (inl g)) (C.only y);
}
