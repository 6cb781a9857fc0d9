-- The parts of the files' test together.
use mathlib.Core.Path.{◌≡◌, sym, ◌∙◌, subst}
use mathlib.Core.List.{List}
use mathlib.Core.Bool.{Bool, true, false, false≢true}
use Prim.Native.Nat.{ℕ, ◌*◌, ◌/◌, ◌≤◌, ◌<◌}
use native.Mathlib.Omega.{arith}
use lib.ListN.{length, get_or}
use Rattle.tree_table.specs.Field.{field}
use Rattle.tree_table.specs.View.{View, dir_view, file_view, removed_of, Live}
use Rattle.tree_table.specs.Chain.{link_at}
use Rattle.tree_sound.specs.Sound.{Table, up}
use Rattle.order.specs.Tells.{Tells}
use Rattle.tree_marks.specs.Inner.Marks.{mark_at, Within}
use Rattle.tree_marks.specs.Inner.Gather.{Gathered, Gathers, GoneMarked, ParentMarked}
use Rattle.tree_alone.specs.Inner.Stage.{OnlyGone, TableTested}
use Rattle.tree_alone.proofs.OneTable.{clean_gathered}
use Rattle.tree_alone.proofs.Singles.{rooms_fit}
use Rattle.tree_test.specs.Inner.Halves.{FilesTested}
use Rattle.tree_test.proofs.Kids.{kids_lists, kids_parents, kids_named}

-- what the directories' marks tell is told still, where only later places have changed
pub told_within : {count off room : ℕ} {R work work' : List ℕ} → count ≤ off → Within off room work work' → GoneMarked count R work → GoneMarked count R work'
told_within {count} {off} {room} {R} {work} {work'} h W T = record {
  dead = λ p a b.
      let e : get_or work' p 0 ≡ get_or work p 0 = W.before p (omega arith) in
      (λ m. e ∙ (T.dead p a b).0 m, λ q. (T.dead p a b).1 (sym e ∙ q));
}

module _ (dh d fh f : List ℕ) (off : ℕ) (work : List ℕ) (tell : GoneMarked (field 40 d 0 1) (removed_of (dir_view dh d)) work) (apart : field 40 d 0 1 ≤ off) where
  abbrev D : View
  D = dir_view dh d

  abbrev F : View
  F = file_view d fh f

  abbrev dir_count : ℕ
  dir_count = field 40 d 0 1

  abbrev count : ℕ
  count = field 48 f 0 1

  abbrev RD : List ℕ
  RD = removed_of (dir_view dh d)

  abbrev R : List ℕ
  R = removed_of (file_view d fh f)

  module _ {w1 : List ℕ} {r1 : Bool} (S : TableTested fh f 48 1 off work w1 r1) where
    pub files_table : r1 ≡ false → FilesTested dh d fh f false
    files_table e = record {
      good = λ q. absurd (false≢true q);
      bad = λ _ P. S.bad e 0 (λ p. field 40 d p 8) P.table P.table.count_one;
    }

    module _ (e1 : r1 ≡ true) {w2 : List ℕ} {r2 : Bool}
        (B : ((RD R : List ℕ) → GoneMarked dir_count RD w1 → Gathered (link_at f 48 20) count (link_at d 40 28) (Live dir_count RD) R 1 (mark_at w1 off)
        → Gathers (link_at f 48 20) count (link_at d 40 28) (Live dir_count RD) dir_count off R w2 r2) × Within off count w1 w2)
        (few : dir_count ≤ 65536) where
      T : Table F
      T = (S.good e1 0 (λ p. field 40 d p 8)).0

      clean : OnlyGone count R (mark_at w1 off)
      clean = (S.good e1 0 (λ p. field 40 d p 8)).2

      lists : Gathers (link_at f 48 20) count (link_at d 40 28) (Live dir_count RD) dir_count off R w2 r2
      lists = B.0 RD R (told_within apart S.within tell) (clean_gathered clean (link_at f 48 20) (link_at d 40 28) (Live dir_count RD))

      pub files_lists : r2 ≡ false → FilesTested dh d fh f false
      unfolding field
      files_lists e = record {
        good = λ q. absurd (false≢true q);
        bad = λ _ P. lists.bad e (up F) (λ j a b w. P.lists j w);
      }

      pub files_end : r2 ≡ true → {r3 : Bool} → Tells ((y : ℕ) → 0 < y → y < count → ParentMarked 0 y (mark_at w2 off y) (link_at f 48 0 y)) r3 → FilesTested dh d fh f r3
      unfolding field
      files_end e2 {r3} N = record {
        good = λ e. record {
          table = T;
          parents = kids_parents (link_at f 48 20) (link_at d 40 28) (up F) count dir_count 0 RD R (mark_at w2 off) (omega arith) (lists.good e2) (N.yes e);
          lists = kids_lists (link_at f 48 20) (link_at d 40 28) (up F) count dir_count 0 RD R (mark_at w2 off) (omega arith) (lists.good e2) (N.yes e);
        };
        bad = λ e P.
            false≢true (sym e ∙ N.only (kids_named (link_at f 48 20) (link_at d 40 28) (up F) count dir_count 0 RD R (mark_at w2 off) (omega arith) (lists.good e2)
            P.lists P.parents (λ y a q. absurd (omega arith))));
      }

-- ---- the files' test, by the numbers that the code holds

module _ (d : List ℕ) {fh f : List ℕ} {off : ℕ} {work w1 : List ℕ} {r1 : Bool} {n m : ℕ} (S : TableTested fh f 48 1 off work w1 r1) (e1 : r1 ≡ true)
    (en : n ≡ link_at d 40 0 0) (em : m ≡ link_at f 48 0 0) where
  dirs_count : n ≡ field 40 d 0 1
  unfolding field
  dirs_count = en

  files_count : m ≡ field 48 f 0 1
  unfolding field
  files_count = em

  pub files_front : (n ≡ field 40 d 0 1) × (m ≤ length f / 48) × (m * 48 ≤ length f)
  files_front =
      let t = S.good e1 0 (λ p. 0) in
      let low : m ≤ length f / 48 =
      subst (λ z. z ≤ length f / 48) (sym files_count) (let a = t.0.count_max in let b = t.0.max_room in omega arith) in
      (dirs_count, low, rooms_fit f 48 m low)

  module _ {w2 : List ℕ} {r2 : Bool}
      (B : ((RD R : List ℕ) → GoneMarked n RD w1 → Gathered (link_at f 48 20) m (link_at d 40 28) (Live n RD) R 1 (mark_at w1 off)
      → Gathers (link_at f 48 20) m (link_at d 40 28) (Live n RD) n off R w2 r2) × Within off m w1 w2)
      (apart : field 40 d 0 1 ≤ off) (few : off ≤ 65536) where
    kids : ((RD R : List ℕ) → GoneMarked (field 40 d 0 1) RD w1
        → Gathered (link_at f 48 20) (field 48 f 0 1) (link_at d 40 28) (Live (field 40 d 0 1) RD) R 1 (mark_at w1 off)
        → Gathers (link_at f 48 20) (field 48 f 0 1) (link_at d 40 28) (Live (field 40 d 0 1) RD) (field 40 d 0 1) off R w2 r2) × Within off (field 48 f 0 1) w1 w2
    kids =
        subst (λ z. ((RD R : List ℕ) → GoneMarked (field 40 d 0 1) RD w1 → Gathered (link_at f 48 20) z (link_at d 40 28) (Live (field 40 d 0 1) RD) R 1 (mark_at w1 off)
        → Gathers (link_at f 48 20) z (link_at d 40 28) (Live (field 40 d 0 1) RD) (field 40 d 0 1) off R w2 r2) × Within off z w1 w2) files_count
        (subst (λ z. ((RD R : List ℕ) → GoneMarked z RD w1 → Gathered (link_at f 48 20) m (link_at d 40 28) (Live z RD) R 1 (mark_at w1 off)
        → Gathers (link_at f 48 20) m (link_at d 40 28) (Live z RD) z off R w2 r2) × Within off m w1 w2) dirs_count B)

    module _ (dh : List ℕ) (tell : GoneMarked (field 40 d 0 1) (removed_of (dir_view dh d)) work) where
      pub files_2 : r2 ≡ false → FilesTested dh d fh f false
      files_2 e = files_lists dh d fh f off work tell apart S e1 kids (omega arith) e

      pub files_3 : r2 ≡ true → {r3 : Bool} → Tells ((y : ℕ) → 0 < y → y < m → ParentMarked 0 y (mark_at w2 off y) (link_at f 48 0 y)) r3 → FilesTested dh d fh f r3
      files_3 e {r3} N =
          files_end dh d fh f off work tell apart S e1 kids (omega arith) e
          (subst (λ z. Tells ((y : ℕ) → 0 < y → y < z → ParentMarked 0 y (mark_at w2 off y) (link_at f 48 0 y)) r3) files_count N)
