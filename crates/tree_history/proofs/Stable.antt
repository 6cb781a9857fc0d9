-- What the rows ask of the tables holds where it is not denied: a row that does not apply says the rest.
use mathlib.Core.Path.{◌≡◌, refl, sym, ap₂, subst}
use mathlib.Core.List.{List, [], ◌∷◌}
use mathlib.Core.Logic.{◌⊎◌, inl, inr, ⊎_elim, ◌≢◌}
use Prim.Native.Nat.{ℕ, suc, ◌≤◌, ◌<◌}
use native.Mathlib.Nat.{lt_of_not-le}
use native.Mathlib.Omega.{arith}
use lib.ListN.{length}
use Rattle.links.specs.Links.{◌∈◌, Links, Holds}
use Rattle.links.specs.Change.{walk}
use Rattle.links.proofs.Laws.{distinct, walked, fewer}
use Rattle.links.proofs.Held.{same_or}
use Rattle.tree_table.specs.View.{View, place, removed_of, LiveIn}
use Rattle.tree_sound.specs.Sound.{Table, Below, Sound, up}
use Rattle.tree_sound.proofs.Bounds.{way_up}

-- not denied
abbrev pub Likely : Type 0 → Type 0
Likely P = (P → ⊥) → ⊥

pub le_stable : (a b : ℕ) → Likely (a ≤ b) → a ≤ b
le_stable a b n = let h : a < suc b = lt_of_not-le (λ (k : suc b ≤ a). n (λ (l : a ≤ b). omega arith)) in omega arith

pub eq_stable : (a b : ℕ) → Likely (a ≡ b) → a ≡ b
eq_stable a b n = ⊎_elim (λ (e : a ≡ b). e) (λ (k : a ≢ b). absurd (n k)) (same_or a b)

in_or : (x : ℕ) (xs : List ℕ) → (x ∈ xs) ⊎ (x ∈ xs → ⊥)
in_or x [] = inr (λ z. z)
in_or x (y ∷ ys) =
    ⊎_elim (λ (e : x ≡ y). inl (inl e)) (λ (n : x ≢ y). ⊎_elim (λ (m : x ∈ ys). inl (inr m)) (λ (k : x ∈ ys → ⊥). inr (⊎_elim n k)) (in_or x ys)) (same_or x y)

in_stable : (x : ℕ) (xs : List ℕ) → Likely (x ∈ xs) → x ∈ xs
in_stable x xs n = ⊎_elim (λ (m : x ∈ xs). m) (λ (k : x ∈ xs → ⊥). absurd (n k)) (in_or x xs)

list_stable : (xs ys : List ℕ) → Likely (xs ≡ ys) → xs ≡ ys
list_stable [] [] n = refl
list_stable [] (y ∷ ys) n = absurd (n (λ (e : [] ≡ y ∷ ys). let z : ◌≡◌ {A = ℕ} 0 1 = cc in omega arith))
list_stable (x ∷ xs) [] n = absurd (n (λ (e : x ∷ xs ≡ []). let z : ◌≡◌ {A = ℕ} 0 1 = cc in omega arith))
list_stable (x ∷ xs) (y ∷ ys) n =
    ap₂ (λ a b. a ∷ b) (eq_stable x y (λ k. n (λ (e : x ∷ xs ≡ y ∷ ys). k (cc)))) (list_stable xs ys (λ k. n (λ (e : x ∷ xs ≡ y ∷ ys). k (cc))))

links_stable : (next : ℕ → ℕ) (x : ℕ) (xs : List ℕ) → Likely (Links next x xs) → Links next x xs
links_stable next x [] n = eq_stable x 0 n
links_stable next x (y ∷ ys) n =
    (eq_stable x y (λ k. n (λ l. k l.0)), le_stable 1 y (λ k. n (λ l. k l.1)), links_stable next (next y) ys (λ k. n (λ l. k l.2)))

pub live_stable : (v : View) (y : ℕ) → Likely (LiveIn v y) → LiveIn v y
live_stable v y n = (le_stable 1 y (λ k. n (λ l. k l.0)), le_stable (suc y) v.count (λ k. n (λ l. k l.1)), λ m. n (λ l. l.2 m))

-- a list that holds live entries is the one that a walk finds
holds_stable : (v : View) (next : ℕ → ℕ) (h : ℕ) (Q : ℕ → Type 0) → ((y : ℕ) → Likely (Q y) → Q y) → 0 < v.count
    → Likely (Holds next h (λ y. LiveIn v y × Q y)) → Holds next h (λ y. LiveIn v y × Q y)
holds_stable v next h Q stable c n = (
  walk next v.count h,
  links_stable next h (walk next v.count h) (λ k. n (λ H. k (subst (λ zs. Links next h zs) (sym (found H)) H.1))),
  λ y. (
    λ m. (
      live_stable v y (λ k. n (λ H. k ((H.2 y).0 (subst (λ zs. y ∈ zs) (found H) m)).0)),
      stable y (λ k. n (λ H. k ((H.2 y).0 (subst (λ zs. y ∈ zs) (found H) m)).1)),
    ),
    λ q. in_stable y (walk next v.count h) (λ k. n (λ H. k (subst (λ zs. y ∈ zs) (sym (found H)) ((H.2 y).1 q)))),
  ),
)
  where
    found : (H : Holds next h (λ y. LiveIn v y × Q y)) → walk next v.count h ≡ H.0
    found H =
        let q : length H.0 < v.count = fewer next v.count h H.0 c H.1 (λ y m. ((H.2 y).0 m).0.1) in
        walked next v.count h H.0 H.1 (omega arith)

table_stable : (v : View) → Likely (Table v) → Table v
table_stable v n = record {
  max_room = le_stable v.maximum v.room (λ k. n (λ T. k T.max_room));
  count_one = some;
  count_max = le_stable v.count v.maximum (λ k. n (λ T. k T.count_max));
  removed = links;
  removed_once = distinct v.coll (v.coll 0) (removed_of v) links;
  removed_below = λ y m. le_stable (suc y) v.count (λ k. n (λ T. k (T.removed_below y m)));
  bucket = λ b h.
      holds_stable v v.coll (v.hash b) (λ y. place v (v.key y) ≡ b) (λ y. eq_stable (place v (v.key y)) b) some
      (λ k. n (λ T. k (T.bucket b h)));
  keys = λ y z a b e. eq_stable y z (λ k. n (λ T. k (T.keys y z a b e)));
}
  where
    some : 1 ≤ v.count
    some = le_stable 1 v.count (λ k. n (λ T. k T.count_one))

    links : Links v.coll (v.coll 0) (removed_of v)
    links = links_stable v.coll (v.coll 0) (removed_of v) (λ k. n (λ T. k T.removed))

below_stable : (D v : View) (root : ℕ) → Likely (Below D v root) → Below D v root
below_stable D v root n = record {
  table = table;
  parents = λ y l m. live_stable D (up v y) (λ k. n (λ B. k (B.parents y l m)));
  lists = λ p l. holds_stable v v.next (v.head p) (λ y. up v y ≡ p) (λ y. eq_stable (up v y) p) table.count_one (λ k. n (λ B. k (B.lists p l)));
}
  where
    table : Table v
    table = table_stable v (λ k. n (λ B. k B.table))

pub sound_stable : (D F : View) → Likely (Sound D F) → Sound D F
sound_stable D F n = record {
  dirs = record {
    below = below_stable D D 1 (λ k. n (λ S. k S.dirs.below));
    count_two = le_stable 2 D.count (λ k. n (λ S. k S.dirs.count_two));
    root_live = live_stable D 1 (λ k. n (λ S. k S.dirs.root_live));
    root_key = list_stable (D.key 1) (0 ∷ 0 ∷ 0 ∷ 0 ∷ 0 ∷ []) (λ k. n (λ S. k S.dirs.root_key));
    root_next = eq_stable (D.next 1) 0 (λ k. n (λ S. k S.dirs.root_next));
    reach = λ y l. (
      walk (up D) D.count y,
      links_stable (up D) y (walk (up D) D.count y) (λ k. n (λ S. k (subst (λ zs. Links (up D) y zs) (sym (way S y l)) (S.dirs.reach y l).1))),
      in_stable 1 (walk (up D) D.count y) (λ k. n (λ S. k (subst (λ zs. 1 ∈ zs) (sym (way S y l)) (S.dirs.reach y l).2))),
    );
  };
  files = below_stable D F 0 (λ k. n (λ S. k S.files));
}
  where
    way : (S : Sound D F) (y : ℕ) (l : LiveIn D y) → walk (up D) D.count y ≡ (S.dirs.reach y l).0
    way S y l = way_up D S.dirs y l (S.dirs.reach y l).0 (S.dirs.reach y l).1
