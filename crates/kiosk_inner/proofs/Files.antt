-- The live files counted, and their names judged, by the marks of the removed inodes.
use mathlib.Core.Path.{◌≡◌, refl, sym, ap, subst, subst⁻¹, ◌∙◌}
use mathlib.Core.List.{List}
use mathlib.Core.Bool.{Bool, true, false, cond, not, ◌&&◌}
use mathlib.Core.Logic.{◌⊎◌, inl, inr, ⊎_elim}
use Prim.Native.Nat.{ℕ, zero, suc, ◌+◌, ◌*◌, ◌≤◌, ◌<◌}
use native.Mathlib.Omega.{arith}
use native.Mathlib.Numerals.{add-one}
use mir.Val.{Fits}
use mir.Syntax.{w64}
use lib.Dec.{ltb}
use lib.ListN.{length, get_or}
use borrow.Author.Tests.{ltb-true, le-ltb}
use Rattle.links.proofs.Held.{same_or}
use Rattle.fat_node.specs.Entry.{Bytes}
use Rattle.fat_node.proofs.Nodes.{le_or_lt}
use Rattle.tree_marks.specs.Inner.Marks.{gone}
use Rattle.tree_table.specs.Chain.{link_at, member}
use Rattle.audit_inner.specs.Volume.{count_of, removed_files, is_live}
use Rattle.audit_inner.specs.Inner.Marks.{Files, Dead}
use Rattle.audit_inner.proofs.Judging.{count_word}
use Rattle.kiosk_inner.specs.Profile.{live_below, live_files, simple, name_of, OddName}
use Rattle.kiosk_inner.specs.Inner.Judge.{Decides, OddAt}

-- ---- a mark

clash : {A : Type 0} → true ≡ false → A
clash e = let z : ◌≡◌ {A = ℕ} 0 1 = cc in let z' : ⊥ = omega (arith, z) in absurd z'

mark_live : (t : Bool) (m : ℕ) → m ≡ cond t 0 gone → m ≡ 0 → t ≡ true
mark_live true m e z = refl
mark_live false m e z = let x : ⊥ = omega (arith, e, z) in absurd x

mark_dead : (t : Bool) (m : ℕ) → m ≡ cond t 0 gone → (m ≡ 0 → ⊥) → t ≡ false
mark_dead true m e z = absurd (z e)
mark_dead false m e z = refl

live_mark : (t : Bool) (m : ℕ) → m ≡ cond t 0 gone → t ≡ true → m ≡ 0
live_mark true m e q = e
live_mark false m e q = clash (sym q)

-- ---- an inode of the walk

pub record Inodes (f : Bytes) (y : ℕ) : Type 0 where
  pub from : 0 < y
  pub to : y ≤ count_of f

module _ (f : Bytes) (F : Files f) (y count : ℕ) (w : Inodes f y) (e : count ≡ link_at f 48 0 0) where
  pub inode_low : y < count → y < count_of f
  inode_low h = omega (arith, h, e, count_word f)

  pub inode_next : y < count → Inodes f (y + 1)
  inode_next h = record { from = omega arith; to = omega (arith, h, e, count_word f) }

  pub inode_last : count ≤ y → y ≡ count_of f
  inode_last h = omega (arith, h, e, count_word f, w.to)

  pub inode_inside : y < count → y * 48 + 48 ≤ length f
  inode_inside h = omega (arith, h, e, count_word f, F.fits)

  -- its mark; j is the inode as an index
  pub inode_place : (n : ℕ) (work : List ℕ) → Dead n f work → y < count → (j : ℕ) → j ≡ y → n + j < length work
  inode_place n work D h j q = omega (arith, h, e, count_word f, D.room, q)

  inode_mark : (n : ℕ) (work : List ℕ) → Dead n f work → y < count → (j : ℕ) → j ≡ y → get_or work (n + j) 0 ≡ cond (is_live f y) 0 gone
  inode_mark n work D h j q = ap (λ (x : ℕ). get_or work (n + x) 0) q ∙ D.at y w.from (inode_low h)

-- ---- the count

pub record Counting (f : Bytes) (live y : ℕ) : Type 0 where
  pub inodes : Inodes f y
  pub is : live ≡ live_below f y
  pub few : live ≤ y

none_zero : (f : Bytes) → live_below f 1 ≡ 0
unfolding is_live
none_zero f = refl

pub count_begin : (f : Bytes) → Files f → Counting f 0 1
count_begin f F = record { inodes = record { from = omega arith; to = F.some }; is = sym (none_zero f); few = omega arith }

module _ (f : Bytes) (F : Files f) (n : ℕ) (work : List ℕ) (D : Dead n f work) (live y count : ℕ) (w : Counting f live y) (e : count ≡ link_at f 48 0 0) (h : y < count) (j : ℕ) (i : j ≡ y) where
  counted : (t : Bool) → is_live f y ≡ t → live_below f (y + 1) ≡ live + cond t 1 0
  counted t p =
      ap (live_below f) (add-one y) ∙ ap (λ (b : Bool). live_below f y + cond {A = ℕ} b 1 0) p ∙ ap (λ (k : ℕ). k + cond {A = ℕ} t 1 0) (sym w.is)

  pub count_one : get_or work (n + j) 0 ≡ 0 → Counting f (live + 1) (y + 1)
  count_one z = record {
    inodes = inode_next f F y count w.inodes e h;
    is = sym (counted true (mark_live (is_live f y) (get_or work (n + j) 0) (inode_mark f F y count w.inodes e n work D h j i) z));
    few = omega (arith, w.few);
  }

  pub count_none : (get_or work (n + j) 0 ≡ 0 → ⊥) → Counting f live (y + 1)
  count_none z = record {
    inodes = inode_next f F y count w.inodes e h;
    is = omega (arith, counted false (mark_dead (is_live f y) (get_or work (n + j) 0) (inode_mark f F y count w.inodes e n work D h j i) z));
    few = omega (arith, w.few);
  }

pub place_in : (f : Bytes) (F : Files f) (n : ℕ) (work : List ℕ) (D : Dead n f work) (live y count : ℕ) (w : Counting f live y) (e : count ≡ link_at f 48 0 0) (h : y < count) (j : ℕ)
    → j ≡ y → n + j < length work
place_in f F n work D live y count w e h j i = inode_place f F y count w.inodes e n work D h j i

pub count_end : (f : Bytes) (F : Files f) (live y count : ℕ) (w : Counting f live y) (e : count ≡ link_at f 48 0 0) → count ≤ y → live ≡ live_files f
unfolding live_files
count_end f F live y count w e h = w.is ∙ ap (live_below f) (inode_last f F y count w.inodes e h)

-- ---- the names

pub record Naming (f : Bytes) (y : ℕ) : Type 0 where
  pub inodes : Inodes f y
  pub none : (x : ℕ) → x < y → is_live f x ≡ true → simple (name_of f x) ≡ true

dead_zero : (f : Bytes) → is_live f 0 ≡ true → ⊥
unfolding is_live
dead_zero f e = clash (sym e)

pub name_begin : (f : Bytes) → Files f → Naming f 1
name_begin f F = record {
  inodes = record { from = omega arith; to = F.some };
  none = λ x h l. let z : x ≡ 0 = omega (arith, h) in absurd (dead_zero f (ap (is_live f) (sym z) ∙ l));
}

module _ (f : Bytes) (F : Files f) (n : ℕ) (work : List ℕ) (D : Dead n f work) (y count : ℕ) (w : Naming f y) (e : count ≡ link_at f 48 0 0) (h : y < count) (j : ℕ) (i : j ≡ y) (r : Bool)
    (o : OddAt f y (get_or work (n + j) 0) r) where
  at : get_or work (n + j) 0 ≡ cond (is_live f y) 0 gone
  at = inode_mark f F y count w.inodes e n work D h j i

  pub name_odd : r ≡ true → Decides true (OddName f)
  name_odd q = record {
    yes = λ x. (y, mark_live (is_live f y) (get_or work (n + j) 0) at (o.yes q).0, (o.yes q).1);
    no = λ x. clash x;
  }

  pub name_on : r ≡ false → Naming f (y + 1)
  name_on q = record {
    inodes = inode_next f F y count w.inodes e h;
    none = λ x k l. ⊎_elim
        (λ (z : x ≡ y).
        ap (λ (v : ℕ). simple (name_of f v)) z
        ∙ o.no q (live_mark (is_live f y) (get_or work (n + j) 0) at (ap (is_live f) (sym z) ∙ l)))
        (λ z. w.none x (lower x k z) l)
        (same_or x y);
  }
    where
      lower : (x : ℕ) → x < y + 1 → (x ≡ y → ⊥) → x < y
      lower x k z = ⊎_elim (λ (u : y ≤ x). absurd (z (omega (arith, u, k)))) (λ u. u) (le_or_lt y x)

pub name_in : (f : Bytes) (F : Files f) (n : ℕ) (work : List ℕ) (D : Dead n f work) (y count : ℕ) (w : Naming f y) (e : count ≡ link_at f 48 0 0) (h : y < count) (j : ℕ) → j ≡ y
    → n + j < length work
name_in f F n work D y count w e h j i = inode_place f F y count w.inodes e n work D h j i

pub name_inside : (f : Bytes) (F : Files f) (y count : ℕ) (w : Naming f y) (e : count ≡ link_at f 48 0 0) (h : y < count) → y * 48 + 48 ≤ length f
name_inside f F y count w e h = inode_inside f F y count w.inodes e h

live_below_lem : (f : Bytes) (y : ℕ) → is_live f y ≡ true → y < count_of f
unfolding is_live
live_below_lem f y e = go (ltb 0 y) (ltb y (count_of f)) refl e
  where
    go : (a b : Bool) → ltb y (count_of f) ≡ b → a && (b && not (member y (removed_files f))) ≡ true → y < count_of f
    go true true q p = ltb-true y (count_of f) q
    go true false q p = clash (sym p)
    go false b q p = clash (sym p)

pub name_end : (f : Bytes) (F : Files f) (y count : ℕ) (w : Naming f y) (e : count ≡ link_at f 48 0 0) → count ≤ y → Decides false (OddName f)
name_end f F y count w e h = record {
  yes = λ x. clash (sym x);
  no = λ x v.
      let b : v.0 < y = omega (arith, live_below_lem f v.0 v.1, inode_last f F y count w.inodes e h) in
      clash (sym (w.none v.0 b v.1) ∙ v.2);
}
