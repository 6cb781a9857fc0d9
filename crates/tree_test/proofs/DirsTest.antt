-- The parts of the directories' test together.
use mathlib.Core.Path.{◌≡◌, refl, sym, ap, ◌∙◌, subst}
use mathlib.Core.List.{List, [], ◌∷◌}
use mathlib.Core.Logic.{inl, inr, ⊎_elim, ◌≢◌, ◌↔◌}
use mathlib.Core.Bool.{Bool, true, false, false≢true}
use Prim.Native.Nat.{ℕ, ◌-◌, ◌*◌, ◌/◌, ◌≤◌, ◌<◌}
use native.Mathlib.Omega.{arith}
use native.Mathlib.Nat.{zero-add}
use lib.ListN.{length, get_or, take, drop}
use lib.Dec.{eqb}
use borrow.Author.Tests.{eqb-true, eq-eqb}
use Rattle.links.specs.Links.{◌∈◌}
use Rattle.links.proofs.Held.{same_or}
use Rattle.tree_key.specs.Key.{key_of, key_words, same_key}
use Rattle.tree_key.specs.declared.SaveExtKey.{SaveExtKey}
use Rattle.tree_key.proofs.Laws.{same_equal, equal_same}
use Rattle.tree_table.specs.Field.{field}
use Rattle.tree_table.specs.View.{View, key_at, dir_view, removed_of, LiveIn, parent, Live}
use Rattle.tree_table.specs.Chain.{link_at}
use Rattle.tree_table.proofs.Chain.{key_part}
use Rattle.tree_sound.specs.Sound.{Table, up}
use Rattle.order.specs.Tells.{Tells}
use Rattle.tree_marks.specs.Inner.Marks.{gone, mark_at, mark_of, Within}
use Rattle.tree_marks.specs.Inner.Gather.{Gathered, Gathers, GoneMarked, ParentMarked}
use Rattle.tree_marks.specs.Inner.Climb.{Rising, AllRisen}
use Rattle.tree_marks.proofs.Walks.{within_trans, within_more}
use Rattle.tree_alone.specs.Inner.Stage.{OnlyGone, TableTested}
use Rattle.tree_alone.proofs.OneTable.{clean_gathered}
use Rattle.tree_alone.proofs.Singles.{rooms_fit}
use Rattle.tree_test.specs.Inner.Halves.{RootFits, DirsTested}
use Rattle.tree_test.proofs.Kids.{kids_mark, kids_lists, kids_parents, kids_named}

-- ---- the root

module _ (d : List ℕ) (mark : ℕ) where
  pub root_gone : mark ≡ gone → Tells (RootFits d mark) false
  root_gone e = record { yes = λ q. absurd (false≢true q); only = λ p. absurd (p.here e) }

  module _ (n : mark ≡ gone → ⊥) (r : Bool) (k : SaveExtKey) (ek : key_words k ≡ 0 ∷ 0 ∷ 0 ∷ 0 ∷ 0 ∷ []) (e : r ≡ same_key (key_at (field 40 d) 1) (key_words k)) where
    pub root_named : r ≡ false → Tells (RootFits d mark) false
    root_named f = record {
      yes = λ q. absurd (false≢true q);
      only = λ p. absurd (false≢true (sym f ∙ e ∙ equal_same (key_at (field 40 d) 1) (key_words k) (p.key ∙ sym ek)));
    }

    pub root_last : r ≡ true → (next : ℕ) → next ≡ field 40 d 1 6 → Tells (RootFits d mark) (eqb next 0)
    root_last t next en = record {
      yes = λ q. record { here = n; key = same_equal (key_at (field 40 d) 1) (key_words k) (sym e ∙ t) ∙ ek; next = sym en ∙ eqb-true next 0 q };
      only = λ p. eq-eqb next 0 (en ∙ p.next);
    }

-- ---- a mark among those of the directories, which begin at 0

at_zero : (work : List ℕ) (y : ℕ) → mark_at work 0 y ≡ mark_of work y
at_zero work y = ap (λ z. get_or work z 0) (zero-add y)

pub told_clean : (count : ℕ) (R work : List ℕ) → ((y : ℕ) → y ∈ R ↔ (mark_at work 0 y ≡ gone)) → GoneMarked count R work
told_clean count R work h = record { dead = λ p a b. (λ m. sym (at_zero work p) ∙ (h p).0 m, λ e. (h p).1 (at_zero work p ∙ e)) }

module _ (dh d work : List ℕ) where
  abbrev D : View
  D = dir_view dh d

  abbrev count : ℕ
  count = field 40 d 0 1

  abbrev R : List ℕ
  R = removed_of (dir_view dh d)

  module _ {w1 : List ℕ} {r1 : Bool} (S : TableTested dh d 40 2 0 work w1 r1) where
    pub dirs_table : r1 ≡ false → DirsTested dh d work w1 false
    dirs_table e = record {
      good = λ q. absurd (false≢true q);
      bad = λ _ P. S.bad e 1 (λ p. field 40 d p 7) P.below.table P.count_two;
      within = S.within;
    }

    module _ (e1 : r1 ≡ true) where
      T : Table D
      T = (S.good e1 1 (λ p. field 40 d p 7)).0

      two : 2 ≤ count
      two = (S.good e1 1 (λ p. field 40 d p 7)).1

      clean : OnlyGone count R (mark_at w1 0)
      clean = (S.good e1 1 (λ p. field 40 d p 7)).2

      pub dirs_told : GoneMarked count R w1
      dirs_told = told_clean count R w1 clean.removed

      module _ (r2 : Bool) (Q : Tells (RootFits d (get_or w1 1 0)) r2) where
        pub dirs_root : r2 ≡ false → DirsTested dh d work w1 false
        dirs_root e = record {
          good = λ q. absurd (false≢true q);
          bad = λ _ P. false≢true (sym e ∙ Q.only (record {
            here = λ g. P.root_live.2 ((dirs_told.dead 1 (omega arith) (let z = two in omega arith)).1 g);
            key = P.root_key;
            next = P.root_next;
          }));
          within = S.within;
        }

        module _ (e2 : r2 ≡ true) {w2 : List ℕ} {r3 : Bool}
            (B : ((RD R : List ℕ) → GoneMarked count RD w1 → Gathered (link_at d 40 20) count (link_at d 40 24) (Live count RD) R 1 (mark_at w1 0)
            → Gathers (link_at d 40 20) count (link_at d 40 24) (Live count RD) count 0 R w2 r3) × Within 0 count w1 w2)
            (low : count ≤ length d / 40) (few : count ≤ 65536) where
          root_up : up D 1 ≡ 0
          root_up = ap parent (Q.yes e2).key

          lists : Gathers (link_at d 40 20) count (link_at d 40 24) (Live count R) count 0 R w2 r3
          lists = B.0 R R dirs_told (clean_gathered clean (link_at d 40 20) (link_at d 40 24) (Live count R))

          pub dirs_lists : r3 ≡ false → DirsTested dh d work w2 false
          unfolding field
          dirs_lists e = record {
            good = λ q. absurd (false≢true q);
            bad = λ _ P. lists.bad e (up D) (λ j a b w. P.below.lists j w);
            within = within_trans S.within (within_more (length d / 40) low B.1);
          }

          module _ (e3 : r3 ≡ true) {r4 : Bool} (N : Tells ((y : ℕ) → 0 < y → y < count → ParentMarked 1 y (mark_at w2 0 y) (link_at d 40 0 y)) r4) where
            G : Gathered (link_at d 40 20) count (link_at d 40 24) (Live count R) R count (mark_at w2 0)
            G = lists.good e3

            pub dirs_parents : r4 ≡ false → DirsTested dh d work w2 false
            unfolding field
            dirs_parents e = record {
              good = λ q. absurd (false≢true q);
              bad = λ _ P.
                  false≢true (sym e ∙ N.only (kids_named (link_at d 40 20) (link_at d 40 24) (up D) count count 1 R R (mark_at w2 0) (omega arith) G P.below.lists P.below.parents
                  (λ y a q. ap (up D) q ∙ root_up)));
              within = within_trans S.within (within_more (length d / 40) low B.1);
            }

            module _ (e4 : r4 ≡ true) where
              parents : (y : ℕ) → LiveIn D y → (y ≡ 1 → ⊥) → LiveIn D (up D y)
              unfolding field
              parents = kids_parents (link_at d 40 20) (link_at d 40 24) (up D) count count 1 R R (mark_at w2 0) (omega arith) G (N.yes e4)

              mark : (y : ℕ) → LiveIn D y → mark_of w2 y ≡ up D y
              unfolding field
              mark y al = sym (at_zero w2 y) ∙ kids_mark (link_at d 40 20) (link_at d 40 24) (up D) count count 1 R R (mark_at w2 0) (omega arith) G (N.yes e4) y al

              rising : Rising (up D) count R w2
              rising = record {
                at = λ y al.
                    ⊎_elim
                    (λ (e : y ≡ 1).
                    inl (mark y al ∙ ap (up D) e ∙ root_up, (y ∷ [], (refl, al.0, ap (up D) e ∙ root_up), inl (sym e))))
                    (λ (n : y ≢ 1). inr (mark y al, parents y al n))
                    (same_or y 1);
              }

              told : GoneMarked count R w2
              told = told_clean count R w2 G.removed

              pub dirs_end : {w3 : List ℕ} {r5 : Bool} → AllRisen count w2 w3 r5 → DirsTested dh d work w3 r5
              unfolding field
              dirs_end {w3} {r5} A = record {
                good = λ e.
                    let a = A.good e (up D) R told rising in (
                      record {
                        below = record {
                          table = T;
                          parents = parents;
                          lists = kids_lists (link_at d 40 20) (link_at d 40 24) (up D) count count 1 R R (mark_at w2 0) (omega arith) G (N.yes e4);
                        };
                        count_two = two;
                        root_live = (omega arith, (let z = two in omega arith), λ m. (Q.yes e2).here ((dirs_told.dead 1 (omega arith) (let z = two in omega arith)).0 m));
                        root_key = (Q.yes e2).key;
                        root_next = (Q.yes e2).next;
                        reach = a.1;
                      },
                      a.0,
                    );
                bad = λ e P. A.bad e (up D) R root_up told rising P.reach;
                within =
                    within_trans (within_trans S.within (within_more (length d / 40) low B.1)) (within_more (length d / 40) low A.within);
              }

-- ---- the same, by the numbers that the code holds

module _ {dh d work w1 : List ℕ} {r1 : Bool} {n : ℕ} (S : TableTested dh d 40 2 0 work w1 r1) (e1 : r1 ≡ true) (en : n ≡ link_at d 40 0 0) where
  count_is : n ≡ field 40 d 0 1
  unfolding field
  count_is = en

  front : (2 ≤ field 40 d 0 1) × (field 40 d 0 1 ≤ length d / 40)
  front =
      let t = S.good e1 1 (λ p. field 40 d p 7) in
      (t.1, let a = t.0.count_max in let b = t.0.max_room in omega arith)

  pub dirs_front : (2 ≤ n) × (n ≤ length d / 40) × (n * 40 ≤ length d)
  dirs_front = (
    subst (λ z. 2 ≤ z) (sym count_is) front.0,
    subst (λ z. z ≤ length d / 40) (sym count_is) front.1,
    rooms_fit d 40 n (subst (λ z. z ≤ length d / 40) (sym count_is) front.1),
  )

  module _ {r2 : Bool} (Q : Tells (RootFits d (get_or w1 1 0)) r2) (e2 : r2 ≡ true) (few : length d / 40 ≤ 65536) {w2 : List ℕ} {r3 : Bool}
      (B : ((RD R : List ℕ) → GoneMarked n RD w1 → Gathered (link_at d 40 20) n (link_at d 40 24) (Live n RD) R 1 (mark_at w1 0)
      → Gathers (link_at d 40 20) n (link_at d 40 24) (Live n RD) n 0 R w2 r3) × Within 0 n w1 w2) where
    kids : ((RD R : List ℕ) → GoneMarked (field 40 d 0 1) RD w1
        → Gathered (link_at d 40 20) (field 40 d 0 1) (link_at d 40 24) (Live (field 40 d 0 1) RD) R 1 (mark_at w1 0)
        → Gathers (link_at d 40 20) (field 40 d 0 1) (link_at d 40 24) (Live (field 40 d 0 1) RD) (field 40 d 0 1) 0 R w2 r3) × Within 0 (field 40 d 0 1) w1 w2
    kids =
        subst (λ z. ((RD R : List ℕ) → GoneMarked z RD w1 → Gathered (link_at d 40 20) z (link_at d 40 24) (Live z RD) R 1 (mark_at w1 0)
        → Gathers (link_at d 40 20) z (link_at d 40 24) (Live z RD) z 0 R w2 r3) × Within 0 z w1 w2) count_is B

    pub dirs_3 : r3 ≡ false → DirsTested dh d work w2 false
    dirs_3 e = dirs_lists dh d work S e1 r2 Q e2 kids front.1 (let a = front.1 in omega arith) e

    module _ (e3 : r3 ≡ true) {r4 : Bool} (N : Tells ((y : ℕ) → 0 < y → y < n → ParentMarked 1 y (mark_at w2 0 y) (link_at d 40 0 y)) r4) where
      named : Tells ((y : ℕ) → 0 < y → y < field 40 d 0 1 → ParentMarked 1 y (mark_at w2 0 y) (link_at d 40 0 y)) r4
      named = subst (λ z. Tells ((y : ℕ) → 0 < y → y < z → ParentMarked 1 y (mark_at w2 0 y) (link_at d 40 0 y)) r4) count_is N

      pub dirs_4 : r4 ≡ false → DirsTested dh d work w2 false
      dirs_4 e = dirs_parents dh d work S e1 r2 Q e2 kids front.1 (let a = front.1 in omega arith) e3 named e

      pub dirs_5 : r4 ≡ true → {w3 : List ℕ} {r5 : Bool} → AllRisen n w2 w3 r5 → DirsTested dh d work w3 r5
      dirs_5 e4 {w3} {r5} A =
          dirs_end dh d work S e1 r2 Q e2 kids front.1 (let a = front.1 in omega arith) e3 named e4 (subst (λ z. AllRisen z w2 w3 r5) count_is A)

-- the key of the root's own part
pub root_key : (d : List ℕ) (k : List ℕ) {r : Bool} → r ≡ same_key (key_of (take (80 - 40) (drop 40 d))) k → r ≡ same_key (key_at (field 40 d) 1) k
root_key d k e = e ∙ ap (λ l. same_key l k) (key_part 40 d 1 40 refl (omega arith))
