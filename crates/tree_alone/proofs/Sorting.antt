-- The parts of one table's test together: each outcome, and what it says.
use mathlib.Core.Path.{◌≡◌, refl, sym, ap, ◌∙◌, subst}
use mathlib.Core.List.{List}
use mathlib.Core.Logic.{◌⊎◌, inl, inr, ⊎_elim, ◌≢◌}
use mathlib.Core.Bool.{Bool, true, false, false≢true}
use Prim.Native.Nat.{ℕ, ◌+◌, ◌-◌, ◌*◌, ◌/◌, ◌%◌, ◌≤◌, ◌<◌}
use native.Mathlib.Omega.{arith}
use native.Mathlib.Nat.{mod-lt}
use Rattle.std.proofs.Common.{Option, Some, None}
use Rattle.std.specs.Option.{is_some}
use lib.ListN.{length}
use Rattle.links.specs.Links.{◌∈◌, Distinct, Links, Holds}
use Rattle.links.proofs.Laws.{one_list, distinct, fewer, after}
use Rattle.links.proofs.Held.{same_or}
use Rattle.tree_key.specs.Hash.{hash_of}
use Rattle.tree_table.specs.Field.{field}
use Rattle.tree_table.specs.View.{View, place, hash_at, removed_of, Live, key_at}
use Rattle.tree_table.specs.Chain.{link_at, list_at, Ends}
use Rattle.tree_table.proofs.Chain.{list_is, ends}
use Rattle.order.specs.Tells.{Tells}
use Rattle.tree_marks.specs.Inner.Marks.{gone, mark_at, ListMarked, Within}
use Rattle.tree_marks.specs.Inner.Gather.{Gathered, bucket_at, any}
use Rattle.tree_marks.proofs.Walks.{within_trans, entry_in, none_some}
use Rattle.tree_sound.specs.Sound.{Table}
use Rattle.tree_apart.specs.Inner.Apart.{Apart, far, FarApart}
use Rattle.tree_apart.proofs.Differing.{far_no}
use Rattle.tree_alone.specs.Inner.Entries.{Fits, AllFit}
use Rattle.tree_alone.specs.Inner.Stage.{BucketsFiled, BucketsCounted, alone_view, FrontFits, TableSorted, TableCounted}
use Rattle.tree_alone.proofs.Entries.{entries_by}
use Rattle.tree_alone.proofs.OneTable.{removed_is, removed_marks, removed_free, own, by_number, behind, buckets_right, keys_apart, marks_right, apart_right}

bucket_at_lem : (h : List ℕ) (b : ℕ) → bucket_at h (b + 1) ≡ hash_at h b
bucket_at_lem h b = ap (hash_at h) (let e : b + 1 - 1 ≡ b = omega arith in e)

-- an entry with a bucket's mark has a list behind it
record Behind (t : List ℕ) (w count : ℕ) (W : ℕ → ℕ) : Type 0 where
  ends : (y : ℕ) → 0 < y → y < count → (W y ≡ gone → ⊥) → 0 < W y → Ends t w (w - 4) (link_at t w (w - 4) y)

module _ (h t : List ℕ) (w off : ℕ) (work : List ℕ) (zeros : (y : ℕ) → mark_at work off y ≡ 0) where
  abbrev coll : ℕ → ℕ
  coll = link_at t w (w - 4)

  abbrev count : ℕ
  count = field w t 0 1

  module _ (w1 : List ℕ) (r1 : Bool) (A : ListMarked coll count (coll 0) gone off work w1 r1) where
    pub sorted_stop : r1 ≡ false → TableSorted h t w off work w1 false
    unfolding field
    sorted_stop e = record {
      good = λ q. absurd (false≢true q);
      bounded = λ q. absurd (false≢true q);
      apart = λ q. absurd (false≢true q);
      bad = λ _ root head T. A.bad e (removed_of (alone_view h t w root head)) T.removed (removed_free (alone_view h t w root head) (λ y. 0) (mark_at work off) (mark_at work off) zeros T);
      within = A.within;
    }

    module _ (e1 : r1 ≡ true) (w2 : List ℕ) (r2 : Bool)
        (B : (R : List ℕ) → Gathered coll count (bucket_at h) any R 1 (mark_at w1 off) → BucketsFiled h t w count (length h / 4) off R w2 r2)
        (hb : 0 < length h / 4) (hm : length h / 4 ≤ 65536) (W2 : Within off count w1 w2) (hc : count ≤ 65536) where
      abbrev rem : List ℕ
      rem = (A.good e1).0

      started : Gathered coll count (bucket_at h) any rem 1 (mark_at w1 off)
      unfolding field
      started = removed_marks (alone_view h t w 0 (λ p. 0)) (bucket_at h) (mark_at work off) (mark_at w1 off) zeros rem (A.good e1).1 (A.good e1).2 (A.good e1).3

      below : (y : ℕ) → y ∈ rem → y < count
      below y m = ((A.good e1).2 y m).0

      -- the removed list, if the table is sound
      same : (root : ℕ) (head : ℕ → ℕ) → Table (alone_view h t w root head) → rem ≡ removed_of (alone_view h t w root head)
      unfolding field
      same root head T = one_list coll (coll 0) (coll 0) rem (removed_of (alone_view h t w root head)) refl (A.good e1).1 T.removed

      -- in a sound table the keys of every bucket differ, and its entries fit
      sound_apart : (root : ℕ) (head : ℕ → ℕ) → Table (alone_view h t w root head) → (j : ℕ) → 0 < j → j < length h / 4 + 1 → (y : ℕ) → y ∈ list_at t w (w - 4) (bucket_at h j)
          → (j ≡ hash_of (key_at (field w t) y) % (length h / 4) + 1) × Apart t w y
      unfolding field
      sound_apart root head T j p l y m =
          let N = by_number (alone_view h t w root head) hb hm (bucket_at h) (bucket_at_lem h) T j p l in
          let s : length N.0 < count = fewer coll count (bucket_at h j) N.0 (let o : 1 ≤ count = T.count_one in omega arith) N.1 (λ z k. ((N.2 z).0 k).0.1) in
          let k : y ∈ N.0 = subst (λ u. y ∈ u) (list_is t w (w - 4) (bucket_at h j) N.0 N.1 (omega arith)) m in
          let a = (N.2 y).0 k in
          let A = after coll (bucket_at h j) N.0 N.1 y k in (
            sym a.1,
            λ z n q.
                apart_right (alone_view h t w root head) hb hm (bucket_at h) (bucket_at_lem h) T y a.0 A.0 A.1 z
                (subst (λ u. z ∈ u) (list_is t w (w - 4) (coll y) A.0 A.1 (omega (arith, A.2))) n) q,
          )

      fits_sound : (root : ℕ) (head : ℕ → ℕ) → Table (alone_view h t w root head) → (j : ℕ) → 0 < j → j < length h / 4 + 1 → AllFit t w (length h / 4) (bucket_at h j) j
      fits_sound root head T j p l y m = let a = sound_apart root head T j p l y m in inr (a.0, λ _. a.1)

      pub sorted_stop_2 : r2 ≡ false → TableSorted h t w off work w2 false
      unfolding field
      sorted_stop_2 e = record {
        good = λ q. absurd (false≢true q);
        bounded = λ q. absurd (false≢true q);
        apart = λ q. absurd (false≢true q);
        bad = λ _ root head T.
            (B (removed_of (alone_view h t w root head)) (subst (λ R. Gathered coll count (bucket_at h) any R 1 (mark_at w1 off)) (same root head T) started)).bad e
            (own (alone_view h t w root head) hb hm (bucket_at h) (bucket_at_lem h))
            (λ j a b _. by_number (alone_view h t w root head) hb hm (bucket_at h) (bucket_at_lem h) T j a b) (fits_sound root head T);
        within = within_trans A.within W2;
      }

      module _ (e2 : r2 ≡ true) (hw : 24 ≤ w) (hl : count * w ≤ length t) where
        all : Gathered coll count (bucket_at h) any rem (length h / 4 + 1) (mark_at w2 off)
        all = ((B rem started).good e2).0

        -- the entries of a bucket lie below count
        low : (j : ℕ) (p : 0 < j) (l : j < length h / 4 + 1) (y : ℕ) → y ∈ (all.list j p l tt).0 → y < count
        low j p l y m = (all.below y (λ (z : mark_at w2 off y ≡ 0). let k : mark_at w2 off y ≡ j = ((all.list j p l tt).2 y).0 m in omega arith)).1

        short : (1 ≤ count) → (j : ℕ) (p : 0 < j) (l : j < length h / 4 + 1) → length (all.list j p l tt).0 ≤ 65536
        short h1 j p l = let s : length (all.list j p l tt).0 < count = fewer coll count (bucket_at h j) (all.list j p l tt).0 h1 (all.list j p l tt).1 (low j p l) in omega arith

        -- an entry with a bucket's mark stands in its list
        marked : (1 ≤ count) → (j : ℕ) → 0 < j → j < length h / 4 + 1 → (y : ℕ) → mark_at w2 off y ≡ j → y ∈ list_at t w (w - 4) (bucket_at h j)
        marked h1 j p l y m =
            subst (λ k. y ∈ k) (sym (list_is t w (w - 4) (bucket_at h j) (all.list j p l tt).0 (all.list j p l tt).1 (short h1 j p l))) (((all.list j p l tt).2 y).1 m)

        -- every entry fits exactly if every entry has a mark
        all_fit : (1 ≤ count) → (r3 : Bool) → Tells ((y : ℕ) → 0 < y → y < count → 0 < mark_at w2 off y) r3 → Tells ((y : ℕ) → 0 < y → y < count → Fits t w (length h / 4) (far t w (bucket_at h (mark_at w2 off y))) y (mark_at w2 off y)) r3
        all_fit h1 r3 M = entries_by h t w count (length h / 4) (mark_at w2 off) (marked h1) all.only ((B rem started).good e2).1 r3 M

        sorted_behind : Behind t w count (mark_at w2 off)
        unfolding field
        sorted_behind = record {
          ends = λ y y0 yc n p.
              let b = behind (alone_view h t w 0 (λ p. 0)) hb hm (bucket_at h) (bucket_at_lem h) rem (mark_at w2 off) all y n p in
              ends t w (w - 4) (coll y) b.0 b.1 (let s = b.2 in omega arith) (λ z m. entry_in w z count (length t) (b.3 z m) hl);
        }

        -- the list behind an entry is the one that the code walks
        walks : (y : ℕ) (zs : List ℕ) → Links coll (coll y) zs → ((z : ℕ) → z ∈ zs → z < count) → 0 < count → list_at t w (w - 4) (coll y) ≡ zs
        walks y zs l b p = list_is t w (w - 4) (coll y) zs l (let s : length zs < count = fewer coll count (coll y) zs p l b in omega arith)

        module _ (h1 : 1 ≤ count) (r3 : Bool) (M : Tells ((y : ℕ) → 0 < y → y < count → 0 < mark_at w2 off y) r3) where
          C : Tells ((y : ℕ) → 0 < y → y < count → Fits t w (length h / 4) (far t w (bucket_at h (mark_at w2 off y))) y (mark_at w2 off y)) r3
          C = all_fit h1 r3 M

          -- the keys of a long bucket differ by the sorting, those of another by what was compared
          either : FarApart h t w → (y : ℕ) → 0 < mark_at w2 off y → mark_at w2 off y < length h / 4 + 1 → (far t w (bucket_at h (mark_at w2 off y)) ≡ false → Apart t w y) → Apart t w y
          either L y p l q = go (far t w (bucket_at h (mark_at w2 off y))) refl
            where
              go : (b : Bool) → far t w (bucket_at h (mark_at w2 off y)) ≡ b → Apart t w y
              go true f = (L.right (mark_at w2 off y) p l f).each y (marked h1 (mark_at w2 off y) p l y refl)
              go false f = q f

          module _ (e3 : r3 ≡ true) (L : FarApart h t w) (root : ℕ) (head : ℕ → ℕ) (F : FrontFits (alone_view h t w root head)) where
            abbrev v : View
            v = alone_view h t w root head

            is : removed_of v ≡ rem
            unfolding field
            is = removed_is v rem (A.good e1).1 below F.count_one

            marks : (y : ℕ) → 0 < y → y < count → (mark_at w2 off y ≡ gone) ⊎ (mark_at w2 off y ≡ place v (v.key y) + 1)
            unfolding field
            marks y a b =
                ⊎_elim (λ (g : mark_at w2 off y ≡ gone). inl g)
                (λ (q : (mark_at w2 off y ≡ hash_of (key_at (field w t) y) % (length h / 4) + 1) × (far t w (bucket_at h (mark_at w2 off y)) ≡ false → Apart t w y)). inr q.0) (C.yes e3 y a b)

            apart : (y : ℕ) → Live v.count rem y → (zs : List ℕ) → Links coll (coll y) zs → (z : ℕ) → z ∈ zs → v.key z ≡ v.key y → ⊥
            unfolding field
            apart y ly zs l z m e =
                ⊎_elim (λ (g : mark_at w2 off y ≡ gone). ly.2 ((all.removed y).1 g))
                (λ (q : (mark_at w2 off y ≡ hash_of (key_at (field w t) y) % (length h / 4) + 1) × (far t w (bucket_at h (mark_at w2 off y)) ≡ false → Apart t w y)).
                let n : mark_at w2 off y ≡ gone → ⊥ = λ g. ly.2 ((all.removed y).1 g) in
                let qm : mark_at w2 off y ≡ hash_of (key_at (field w t) y) % (length h / 4) + 1 = q.0 in
                let b = behind v hb hm (bucket_at h) (bucket_at_lem h) rem (mark_at w2 off) all y n (omega arith) in
                let s : b.0 ≡ zs = one_list coll (coll y) (coll y) b.0 zs refl b.1 l in
                let k : list_at t w (w - 4) (coll y) ≡ b.0 = walks y b.0 b.1 b.3 (let u : y < count = ly.1 in omega arith) in
                let small : hash_of (key_at (field w t) y) % (length h / 4) < length h / 4 = mod-lt (hash_of (key_at (field w t) y)) hb in
                either L y (omega arith) (omega arith) q.1 z (subst (λ u. z ∈ u) (sym (k ∙ s)) m) e)
                (C.yes e3 y ly.0 ly.1)

            pub sorted_table : Table v
            unfolding field
            sorted_table = record {
              max_room = F.max_room;
              count_one = F.count_one;
              count_max = F.count_max;
              removed = subst (λ R. Links coll (coll 0) R) (sym is) (A.good e1).1;
              removed_once = subst Distinct (sym is) (distinct coll (coll 0) rem (A.good e1).1);
              removed_below = λ y m. below y (subst (λ R. y ∈ R) is m);
              bucket = λ b hbb.
                  subst (λ R. Holds coll (v.hash b) (λ y. Live v.count R y × (place v (v.key y) ≡ b))) (sym is)
                  (buckets_right v hb hm (bucket_at h) (bucket_at_lem h) rem (mark_at w2 off) all marks b hbb);
              keys = subst (λ R. (y z : ℕ) → Live v.count R y → Live v.count R z → v.key y ≡ v.key z → y ≡ z) (sym is)
                  (keys_apart v hb hm (bucket_at h) (bucket_at_lem h) rem (mark_at w2 off) all marks apart);
            }

            pub sorted_marks : Gathered coll count (bucket_at h) any (removed_of v) (length h / 4 + 1) (mark_at w2 off)
            sorted_marks = subst (λ R. Gathered coll count (bucket_at h) any R (length h / 4 + 1) (mark_at w2 off)) (sym is) all

          -- a sound table passes
          passes : (root : ℕ) (head : ℕ → ℕ) → Table (alone_view h t w root head) → r3 ≡ true
          unfolding field
          passes root head T =
              let v : View = alone_view h t w root head in
              let G : Gathered coll count (bucket_at h) any (removed_of (alone_view h t w root head)) (length h / 4 + 1) (mark_at w2 off) =
              subst (λ R. Gathered coll count (bucket_at h) any R (length h / 4 + 1) (mark_at w2 off)) (same root head T) all in
              C.only (λ y a b.
              ⊎_elim (λ (g : mark_at w2 off y ≡ gone). inl g)
              (λ (g : mark_at w2 off y ≢ gone).
              inr (
                ⊎_elim (λ (k : mark_at w2 off y ≡ gone). absurd (g k)) (λ (k : mark_at w2 off y ≡ own (alone_view h t w root head) hb hm (bucket_at h) (bucket_at_lem h) y). k)
                    (marks_right (alone_view h t w root head) hb hm (bucket_at h) (bucket_at_lem h) T (mark_at w2 off) G y a b),
                λ _ z m e.
                    apart_right (alone_view h t w root head) hb hm (bucket_at h) (bucket_at_lem h) T y (a, b, λ k. g ((G.removed y).0 k)) (list_at t w (w - 4) (coll y))
                    (sorted_behind.ends y a b g (positive_mark root head T G y a b g)).links z m e,
              ))
              (same_or (mark_at w2 off y) gone))
            where
              positive_mark : (root : ℕ) (head : ℕ → ℕ) → Table (alone_view h t w root head) → Gathered coll count (bucket_at h) any (removed_of (alone_view h t w root head)) (length h / 4 + 1) (mark_at w2 off)
                  → (y : ℕ) → 0 < y → y < count → (mark_at w2 off y ≡ gone → ⊥) → 0 < mark_at w2 off y
              positive_mark root head T G y a b g =
                  ⊎_elim (λ (k : mark_at w2 off y ≡ gone). absurd (g k))
                  (λ (k : mark_at w2 off y ≡ own (alone_view h t w root head) hb hm (bucket_at h) (bucket_at_lem h) y). omega arith)
                  (marks_right (alone_view h t w root head) hb hm (bucket_at h) (bucket_at_lem h) T (mark_at w2 off) G y a b)

          pub sorted_end : TableSorted h t w off work w2 r3
          sorted_end = record {
            good = λ e L root head F. (sorted_table e L root head F, sorted_marks e L root head F);
            bounded = λ _. record {
              ends = λ j p l.
                  ends t w (w - 4) (bucket_at h j) (all.list j p l tt).0 (all.list j p l tt).1 (short h1 j p l) (λ z m. entry_in w z count (length t) (low j p l z m) hl);
              short = λ j p l.
                  let s : length (all.list j p l tt).0 < count = fewer coll count (bucket_at h j) (all.list j p l tt).0 h1 (all.list j p l tt).1 (low j p l) in
                  let k : list_at t w (w - 4) (bucket_at h j) ≡ (all.list j p l tt).0 = list_is t w (w - 4) (bucket_at h j) (all.list j p l tt).0 (all.list j p l tt).1 (short h1 j p l) in
                  omega (arith, ap length k);
            };
            apart = λ _ root head T. record { right = λ j p l _. record { each = λ y m. (sound_apart root head T j p l y m).1 } };
            bad = λ e root head T. false≢true (sym e ∙ passes root head T);
            within = within_trans A.within W2;
          }

-- ---- the same, by the numbers that the code holds

module _ (h t : List ℕ) (w off : ℕ) {work w1 : List ℕ} {n first : ℕ} {r1 : Bool} (en : n ≡ field w t 0 1) (ef : first ≡ link_at t w (w - 4) 0) (zeros : (y : ℕ) → mark_at work off y ≡ 0)
    (A : ListMarked (link_at t w (w - 4)) n first gone off work w1 r1) where
  at : ListMarked (link_at t w (w - 4)) (field w t 0 1) (link_at t w (w - 4) 0) gone off work w1 r1
  at = subst (λ z. ListMarked (link_at t w (w - 4)) z (link_at t w (w - 4) 0) gone off work w1 r1) en (subst (λ z. ListMarked (link_at t w (w - 4)) n z gone off work w1 r1) ef A)

  pub sort_1 : r1 ≡ false → TableCounted h t w off work w1 None
  sort_1 e = record { sorted = sorted_stop h t w off work zeros w1 r1 at e; near = λ n q. absurd (none_some q) }

  module _ {w2 : List ℕ} {r : Option ℕ} (e1 : r1 ≡ true) (hb : 0 < length h / 4) (hm : length h / 4 ≤ 65536)
      (B : BucketsCounted h t w n (length h / 4) off w1 w2 r) (hc : n ≤ 65536) where
    lists : (R : List ℕ) → Gathered (link_at t w (w - 4)) (field w t 0 1) (bucket_at h) any R 1 (mark_at w1 off) → BucketsFiled h t w (field w t 0 1) (length h / 4) off R w2 (is_some r)
    lists = subst (λ z. (R : List ℕ) → Gathered (link_at t w (w - 4)) z (bucket_at h) any R 1 (mark_at w1 off) → BucketsFiled h t w z (length h / 4) off R w2 (is_some r)) en B.filed

    inner : Within off (field w t 0 1) w1 w2
    inner = subst (λ z. Within off z w1 w2) en B.within

    pub sort_2 : is_some r ≡ false → TableCounted h t w off work w2 None
    sort_2 e = record {
      sorted = sorted_stop_2 h t w off work zeros w1 r1 at e1 w2 (is_some r) lists hb hm inner (subst (λ z. z ≤ 65536) en hc) e;
      near = λ n q. absurd (none_some q);
    }

    module _ {m : ℕ} (p : r ≡ Some m) (hw : 24 ≤ w) (hl : n * w ≤ length t) (h1 : 1 ≤ n) {r3 : Bool} (M : Tells ((y : ℕ) → 0 < y → y < n → 0 < mark_at w2 off y) r3) where
      end : TableSorted h t w off work w2 r3
      end =
          sorted_end h t w off work zeros w1 r1 at e1 w2 (is_some r) lists hb hm inner (subst (λ z. z ≤ 65536) en hc) (ap is_some p) hw (subst (λ z. z * w ≤ length t) en hl) (subst (λ z. 1 ≤ z) en h1) r3
          (subst (λ z. Tells ((y : ℕ) → 0 < y → y < z → 0 < mark_at w2 off y) r3) en M)

      pub sort_3 : r3 ≡ false → TableCounted h t w off work w2 None
      sort_3 e = record { sorted = subst (λ b. TableSorted h t w off work w2 b) e end; near = λ n q. absurd (none_some q) }

      pub sort_4 : r3 ≡ true → TableCounted h t w off work w2 (Some m)
      sort_4 e = record {
        sorted = subst (λ b. TableSorted h t w off work w2 b) e end;
        near = λ n q s. record {
          near = λ j a b.
              let i : m ≡ n = cc in
              let k : length (list_at t w (w - 4) (bucket_at h j)) ≤ m = B.longest m p j a b in
              sym (far_no t w (bucket_at h j) (omega arith));
        };
      }
