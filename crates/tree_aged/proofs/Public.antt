-- What the rows tell of the two tables, and the public call: the gate, then what is told of sound tables.
use mathlib.Core.Path.{◌≡◌, refl, sym, ap, ◌∙◌, subst, subst⁻¹}
use mathlib.Core.List.{List, [], ◌∷◌, ◌++◌, append-nil}
use mathlib.Core.Logic.{inl, inr, ⊎_elim, ◌≢◌}
use Prim.Native.Nat.{ℕ, zero, suc, ◌+◌, ◌-◌, ◌*◌, ◌/◌, ◌≤◌, ◌<◌}
use native.Mathlib.Omega.{arith}
use native.Mathlib.Nat.{mul-le-mul_right, mod-lt, div-mul-le_self}
use lib.ListN.{length, take, drop, replicate, length-replicate, length-append}
use lib.Seq.{length-take-le}
use Rattle.order.specs.First.{Row, First}
use Rattle.order.specs.Beside.{beside}
use Rattle.order.specs.Gate.{cleared}
use Rattle.std.specs.Prelude.{Some, None}
use Rattle.order.specs.Answer.{Answer, Done}
use Rattle.links.specs.Links.{◌∈◌, Links}
use Rattle.links.proofs.Laws.{next_in}
use Rattle.links.proofs.Held.{same_or}
use Rattle.tree_key.specs.Hash.{hash_of}
use Rattle.tree_table.specs.Field.{field}
use Rattle.tree_table.specs.Chain.{link_at}
use Rattle.tree_table.specs.View.{View, LiveIn, place, view_of, hash_at}
use Rattle.tree_sound.specs.Sizes.{dir_room, file_room}
use Rattle.tree_sound.specs.Sound.{Below, up}
use Rattle.tree_sound.specs.Tables.{Tables, tables, rooms_in, dirs, files}
use Rattle.tree_marks.proofs.Walks.{le_or_lt}
use Rattle.tree_test.specs.Promise.{TreeGateOf}
use Rattle.tree_promises.specs.Inner.Ready.{Ready, LiveAt, alone}
use Rattle.tree_promises.proofs.Gated.{tree_ready, tree_passed}
use Rattle.tree_aged.specs.Age.{LostIn}
use Rattle.tree_aged.specs.Calls.{Age, age_gives, lost_from, lost_rows, aged_rows, AgedPromise}
use Rattle.tree_aged.specs.Inner.Walk.{Fits, Ripe, Sorted, OpenTree, OpenSays}

-- ---- rows for inodes in their order

module _ (lost : ℕ → Type 0) (table : ℕ) (rest : List (Row Age)) (done o : Age) where
  -- none of them applies
  rows_none : (k x : ℕ) → ((y : ℕ) → y < x + k → lost y → ⊥) → First rest done o → First (lost_from k lost table x ++ rest) done o
  rows_none zero x f p = p
  rows_none (suc k) x f p = inr ((λ q. f x (omega arith) q), rows_none k (suc x) (λ y h. f y (omega (arith, h))) p)

  -- the first that applies
  rows_some : (k x z : ℕ) → x ≤ z → z < x + k → lost z → ((y : ℕ) → y < z → lost y → ⊥) → o ≡ age_gives Done table z
      → First (lost_from k lost table x ++ rest) done o
  rows_some zero x z a b l f e = absurd (omega (arith, a, b))
  rows_some (suc k) x z a b l f e =
      ⊎_elim
      (λ (h : z ≤ x). let s : x ≡ z = omega (arith, a, h) in inl (subst⁻¹ (λ (u : ℕ). lost u) s l, e ∙ ap (age_gives Done table) (sym s)))
      (λ (h : x < z). inr ((λ m. f x h m), rows_some k (suc x) z h (omega (arith, b)) l f e))
      (le_or_lt z x)

-- ---- what is told, by the lowest of each table

module _ (d f work : List ℕ) where
  pub told_root : (x : ℕ) → x ≡ link_at d 40 36 1 → (x ≡ 0 → ⊥) → OpenSays d f work work (age_gives Done 1 1)
  unfolding field
  told_root x e n = record { says = inl ((λ k. n (e ∙ k)), refl); same = refl }

  module _ (x : ℕ) (e : x ≡ link_at d 40 36 1) (z : x ≡ 0) (work' : List ℕ) where
    root_last : field 40 d 1 0 ≡ 0
    unfolding field
    root_last = sym e ∙ z

    pub told_dir : (r : ℕ) → Sorted 40 d work work' (Some r) → OpenSays d f work work' (age_gives Done 1 r)
    told_dir r S =
        let q = S.lowest in
        record {
          says = inr (
            (λ k. k root_last),
            rows_some (LostIn (alone 40 d)) 1 (lost_rows (alone 48 f) 2) (age_gives Done 0 0) (age_gives Done 1 r) (field 40 d 0 1 - 1) 1 r q.0.0
                (omega (arith, q.0.1, q.0.0)) (q.0, q.1) (λ y h m. q.2 y h m.0 m.1) refl,
          );
          same = S.same;
        }

    module _ (S : Sorted 40 d work work' None) (work'' : List ℕ) where
      all_none : (y : ℕ) → y < 1 + (field 40 d 0 1 - 1) → LostIn (alone 40 d) y → ⊥
      all_none y h m = S.lowest y m.0.1 m.0 m.1

      pub told_file : (r' : ℕ) → Sorted 48 f work' work'' (Some r') → OpenSays d f work work'' (age_gives Done 2 r')
      told_file r' S' =
          let q = S'.lowest in
          let p : First (lost_from (field 48 f 0 1 - 1) (LostIn (alone 48 f)) 2 1 ++ []) (age_gives Done 0 0) (age_gives Done 2 r') =
          rows_some (LostIn (alone 48 f)) 2 [] (age_gives Done 0 0) (age_gives Done 2 r') (field 48 f 0 1 - 1) 1 r' q.0.0
          (omega (arith, q.0.1, q.0.0)) (q.0, q.1) (λ y h m. q.2 y h m.0 m.1) refl
          in
          record {
            says = inr (
              (λ k. k root_last),
              rows_none (LostIn (alone 40 d)) 1 (lost_rows (alone 48 f) 2) (age_gives Done 0 0) (age_gives Done 2 r') (field 40 d 0 1 - 1) 1 all_none
                  (subst (λ (l : List (Row Age)). First l (age_gives Done 0 0) (age_gives Done 2 r')) (append-nil (lost_rows (alone 48 f) 2)) p),
            );
            same = S'.same ∙ S.same;
          }

      pub told_none : Sorted 48 f work' work'' None → OpenSays d f work work'' (age_gives Done 0 0)
      told_none S' =
          let p : First (lost_from (field 48 f 0 1 - 1) (LostIn (alone 48 f)) 2 1 ++ []) (age_gives Done 0 0) (age_gives Done 0 0) =
          rows_none (LostIn (alone 48 f)) 2 [] (age_gives Done 0 0) (age_gives Done 0 0) (field 48 f 0 1 - 1) 1 (λ y h m. S'.lowest y m.0.1 m.0 m.1) refl
          in
          record {
            says = inr (
              (λ k. k root_last),
              rows_none (LostIn (alone 40 d)) 1 (lost_rows (alone 48 f) 2) (age_gives Done 0 0) (age_gives Done 0 0) (field 40 d 0 1 - 1) 1 all_none
                  (subst (λ (l : List (Row Age)). First l (age_gives Done 0 0) (age_gives Done 0 0)) (append-nil (lost_rows (alone 48 f) 2)) p),
            );
            same = S'.same ∙ S.same;
          }

-- ---- the named places

take_zeros : (n k : ℕ) (rest : List ℕ) → n ≤ k → ◌≡◌ {A = List ℕ} (take n (replicate k 0 ++ rest)) (replicate n 0)
take_zeros zero k rest h = refl
take_zeros (suc n) zero rest h = absurd (omega arith)
take_zeros (suc n) (suc k) rest h = ap (λ (l : List ℕ). 0 ∷ l) (take_zeros n k rest (omega arith))

-- ---- what soundness gives

link_in : (next : ℕ → ℕ) (h p : ℕ) (xs : List ℕ) → Links next h xs → p ∈ xs → 0 < next p → next p ∈ xs
link_in next h p [] l m q = absurd m
link_in next h p (a ∷ xs) l m q = inr (next_in next p h a xs l m q)

module _ (w : ℕ) (t h : List ℕ) (n root : ℕ) (hd : ℕ → ℕ) (D : View) where
  abbrev v : View
  v = view_of n (length t / w) root (field w t) (hash_at h) hd

  module _ (B : Below D v root) (wide : 28 ≤ w) (few : length t / w ≤ 65536) (some : 0 < n) (last : LiveIn v root → v.next root ≡ 0) where
    coll_live : (x : ℕ) → LiveAt w t x → 0 < field w t x 0 → LiveAt w t (field w t x 0)
    coll_live x l p =
        let H = B.table.bucket (place v (v.key x)) (mod-lt (hash_of (v.key x)) some) in
        ((H.2 (field w t x 0)).0 (link_in v.coll (v.hash (place v (v.key x))) x H.0 H.1 ((H.2 x).1 (l, refl)) p)).0

    next_live : (x : ℕ) → LiveAt w t x → 0 < field w t x 6 → LiveAt w t (field w t x 6)
    next_live x l p =
        ⊎_elim
        (λ (e : x ≡ root).
        let z : field w t x 6 ≡ 0 = ap (λ (y : ℕ). field w t y 6) e ∙ last (subst (λ (y : ℕ). LiveIn v y) e l) in absurd (omega (arith, z, p)))
        (λ (k : x ≢ root).
        let H = B.lists (up v x) (B.parents x l k) in
        ((H.2 (field w t x 6)).0 (link_in v.next (v.head (up v x)) x H.0 H.1 ((H.2 x).1 (l, refl)) p)).0)
        (same_or x root)

    count_room : field w t 0 1 ≤ length t / w
    count_room = omega (arith, B.table.count_max, B.table.max_room)

    fits_of : (l : List ℕ) → length l ≡ length t / w → Fits w t l
    fits_of l e = record {
      wide = wide;
      some = B.table.count_one;
      few = omega (arith, count_room, few);
      inside = omega (arith, mul-le-mul_right w count_room, div-mul-le_self (length t) w);
      room = omega (arith, count_room, e);
      coll = coll_live;
      next = next_live;
    }

    ripe_of : (k : ℕ) (work rest : List ℕ) → work ≡ replicate k 0 ++ rest → length t / w ≤ k → Ripe w t work
    ripe_of k work rest e q =
        let long : length t / w ≤ length work = omega (arith, ap (λ (l : List ℕ). length l) e, length-append (replicate k 0) rest, length-replicate {A = ℕ} k 0, q) in
        record {
          wide = wide;
          fits = fits_of (take (length t / w) work) (length-take-le (length t / w) work long);
          gone = record { links = B.table.removed; below = B.table.removed_below };
          zeros = ap (take (length t / w)) e ∙ take_zeros (length t / w) k rest q;
          long = long;
        }

-- the two tables of sound ones: live entries name live ones
module _ (s : Tables) (R : Ready s) where
  pub dirs_fit : Fits 40 s.dir_table (replicate (dir_room s.dir_table) 0)
  dirs_fit =
      let D = R.sound.dirs in
      fits_of 40 s.dir_table s.dir_hash (length s.dir_hash / 4) 1 (dirs s).head (dirs s) D.below (omega arith) R.few_dirs R.dir_buckets (λ _. D.root_next)
      (replicate (dir_room s.dir_table) 0) (length-replicate {A = ℕ} (dir_room s.dir_table) 0)

  pub files_fit : Fits 48 s.file_table (replicate (file_room s.file_table) 0)
  files_fit =
      fits_of 48 s.file_table s.file_hash (length s.file_hash / 4) 0 (files s).head (dirs s) R.sound.files (omega arith) R.few_files R.file_buckets
      (λ l. absurd (omega (arith, l.0))) (replicate (file_room s.file_table) 0) (length-replicate {A = ℕ} (file_room s.file_table) 0)

-- ---- the public call

module _ (dh d fh f work work' : List ℕ) (g : Answer) (says : TreeGateOf (tables dh d fh f) work work' g) (e : g ≡ Done) where
  abbrev s : Tables
  s = tables dh d fh f

  cleared_is : work' ≡ cleared (rooms_in s) work
  unfolding TreeGateOf
  cleared_is = (subst (TreeGateOf s work work') e says).2

  pub aged_ready : OpenTree d f work'
  aged_ready =
      let R : Ready s = tree_ready s work work' g says e in
      let D = R.sound.dirs in
      let dirs_in : field 40 d 0 1 * 40 ≤ length d =
      (fits_of 40 d dh (length dh / 4) 1 (dirs s).head (dirs s) D.below (omega arith) R.few_dirs R.dir_buckets (λ _. D.root_next)
      (replicate (length d / 40) 0) (length-replicate {A = ℕ} (length d / 40) 0)).inside
      in
      record {
        root = omega (arith, dirs_in, D.count_two);
        dirs =
            ripe_of 40 d dh (length dh / 4) 1 (dirs s).head (dirs s) D.below (omega arith) R.few_dirs R.dir_buckets (λ _. D.root_next)
            (rooms_in s) work' (drop (rooms_in s) work) cleared_is (omega arith);
        files =
            ripe_of 48 f fh (length fh / 4) 0 (files s).head (dirs s) R.sound.files (omega arith) R.few_files R.file_buckets
            (λ l. absurd (omega (arith, l.0))) (rooms_in s) work' (drop (rooms_in s) work) cleared_is (omega arith);
      }

  pub aged_passed : (work'' : List ℕ) (o : Age) → OpenSays d f work' work'' o → AgedPromise s work (beside o work'')
  aged_passed work'' o p =
      subst⁻¹ (λ (l : List ℕ). AgedPromise s work (beside o l)) p.same
      (tree_passed (λ a. age_gives a 0 0) s work work' (aged_rows s) (age_gives Done 0 0) g o says e p.says)
