-- The walks from one entry after the other, and what one table's walks leave.
use mathlib.Core.Path.{◌≡◌, refl, sym, ap, ◌∙◌, subst, subst⁻¹}
use mathlib.Core.List.{List}
use mathlib.Core.Logic.{inl, ⊎_elim, ◌≢◌}
use mathlib.Core.Bool.{Bool, true, false, false≢true}
use Rattle.std.specs.Prelude.{None}
use Prim.Native.Nat.{ℕ, ◌+◌, ◌-◌, ◌*◌, ◌≤◌, ◌<◌}
use native.Mathlib.Omega.{arith}
use native.Mathlib.Nat.{zero-add}
use lib.ListN.{length, get_or}
use Rattle.links.specs.Links.{◌∈◌, Links}
use Rattle.links.proofs.Laws.{one_list}
use Rattle.links.proofs.Held.{same_or}
use Rattle.tree_table.specs.Field.{field}
use Rattle.tree_table.specs.Chain.{link_at}
use Rattle.tree_table.specs.View.{removed_of}
use Rattle.tree_marks.specs.Inner.Marks.{mark_of, mark_at, Unmarked, ListMarked}
use Rattle.tree_promises.specs.Inner.Ready.{LiveAt, alone}
use Rattle.tree_aged.specs.Age.{Lost}
use Rattle.tree_aged.specs.Inner.Walk.{coll_of, next_of, Fits, Known, Walked, Passed, NoneLost, Lowest, RemovedEnds, Zeros, Begun}
use Rattle.tree_aged.proofs.Circles.{not_lost}
use Rattle.tree_aged.proofs.Walks.{fits_long}

-- ---- the loop: below y no entry is lost

pub record Lowering (w : ℕ) (t : List ℕ) (work₀ work : List ℕ) (y : ℕ) : Type 0 where
  pub long : length work ≡ length work₀
  pub some : 1 ≤ y
  pub few : field w t 0 1 ≤ 65536
  pub fits : Fits w t work
  pub known : Known w t work
  pub none : NoneLost w t y

module _ {w : ℕ} {t work₀ work : List ℕ} {y : ℕ} (L : Lowering w t work₀ work y) where
  next_none : (LiveAt w t y → Lost (coll_of w t) (next_of w t) y → ⊥) → NoneLost w t (y + 1)
  next_none f z h l q =
      ⊎_elim (λ (e : z ≡ y). f (subst (λ v. LiveAt w t v) e l) (subst (λ v. Lost (coll_of w t) (next_of w t) v) e q))
      (λ (n : z ≢ y). L.none z (omega (arith, h, n)) l q)
      (same_or z y)

  pub low_on : (work' : List ℕ) (r : Bool) → length work' ≡ length work → Passed w t y work' r → r ≡ true → Lowering w t work₀ work' (y + 1)
  low_on work' r e P q = record {
    long = e ∙ L.long;
    some = omega (arith, L.some);
    few = L.few;
    fits = P.fits q;
    known = P.known q;
    none = next_none (P.good q);
  }

  pub low_end : (count : ℕ) → count ≡ field w t 0 1 → count ≤ y → Lowest w t None
  low_end count e h z k l q = L.none z (omega (arith, e, h, k)) l q

-- ---- one inode

module _ (w : ℕ) (t work : List ℕ) (y i : ℕ) (F : Fits w t work) (K : Known w t work) (a : 0 < y) (b : y < field w t 0 1) (e : i ≡ y) where
  -- it has a mark
  pub pass_known : (get_or work i 0 ≡ 0 → ⊥) → Passed w t y work true
  pass_known n = record {
    fits = λ _. F;
    known = λ _. K;
    good = λ _ l q. ⊎_elim (λ k. n (ap (λ (v : ℕ). get_or work v 0) e ∙ k)) (λ k. not_lost k.1 q) (K.at y l);
    bad = λ q. absurd (false≢true (sym q));
  }

  module _ (z : get_or work i 0 ≡ 0) where
    pub pass_free : mark_of work y ≡ 0
    pass_free = subst (λ (v : ℕ). get_or work v 0 ≡ 0) e z

    alive : LiveAt w t y
    alive = K.live y a b pass_free

    pub pass_walked : (work' : List ℕ) (r : Bool) → Walked w t y work' r → Passed w t y work' r
    pass_walked work' r W = record {
      fits = λ q. (W.good q).fits;
      known = λ q. (W.good q).known;
      good = λ q l m. ⊎_elim (λ k. (W.good q).seen k) (λ k. not_lost k.1 m) ((W.good q).known.at y l);
      bad = λ q. (alive, W.bad q);
    }

-- ---- the removed entries are marked first

module _ (w : ℕ) (t work work' : List ℕ) (count first : ℕ) (r : Bool) (F : Fits w t work) (R : RemovedEnds w t) (Z : Zeros work)
    (ec : count ≡ link_at t w 0 0) (ef : first ≡ link_at t w (w - 4) 0) (M : ListMarked (link_at t w (w - 4)) count first 65537 0 work work' r) where
  RS : List ℕ
  RS = removed_of (alone w t)

  count_is : count ≡ field w t 0 1
  unfolding field
  count_is = ec

  -- the removed list, as the walk meets it
  listed : Links (link_at t w (w - 4)) first RS
  unfolding field RS
  listed = subst⁻¹ (λ (v : ℕ). Links (link_at t w (w - 4)) v RS) ef R.links

  at_zero : (l : List ℕ) (y : ℕ) → mark_at l 0 y ≡ mark_of l y
  at_zero l y = ap (λ (v : ℕ). get_or l v 0) (zero-add y)

  unmarked : Unmarked count (mark_at work 0) RS
  unfolding RS
  unmarked y m = (subst⁻¹ (λ (v : ℕ). y < v) count_is (R.below y m), Z.at (0 + y))

  met : (v : Bool) → r ≡ v → r ≡ true
  met true e = e
  met false e = absurd (M.bad e RS listed unmarked)

  gone_mark : (y : ℕ) → y ∈ RS → mark_of work' y ≡ 65537
  gone_mark y m =
      let g = M.good (met r refl) in
      let e : g.0 ≡ RS = one_list (link_at t w (w - 4)) first first g.0 RS refl g.1 listed in
      sym (at_zero work' y) ∙ g.3.marked y (subst⁻¹ (λ (l : List ℕ). y ∈ l) e m)

  other_mark : (y : ℕ) → (y ∈ RS → ⊥) → mark_of work' y ≡ 0
  other_mark y n =
      let g = M.good (met r refl) in
      let e : g.0 ≡ RS = one_list (link_at t w (w - 4)) first first g.0 RS refl g.1 listed in
      sym (at_zero work' y) ∙ g.3.others y (λ k. n (subst (λ (l : List ℕ). y ∈ l) e k)) ∙ Z.at (0 + y)

  pub begun : Begun w t work'
  unfolding RS
  begun = record {
    fits = fits_long F M.within.size;
    known = record {
      at = λ y l. inl (other_mark y l.2);
      live = λ y p b k. (p, b, λ m. omega (arith, gone_mark y m, k));
    };
  }

-- ---- what reading the first entry and marking ask for

module _ {w : ℕ} {t work : List ℕ} (F : Fits w t work) where
  module _ (count : ℕ) (c : count ≡ link_at t w 0 0) where
    pub sort_inside : count * w ≤ length t
    unfolding field
    sort_inside = subst⁻¹ (λ (v : ℕ). v * w ≤ length t) c F.inside

    pub sort_room : 0 + count ≤ length work
    unfolding field
    sort_room = omega (arith, c, F.room)

  pub sort_wide : w - 4 + 4 ≤ w
  sort_wide = omega (arith, F.wide)

pub sort_count_is : (w : ℕ) (t : List ℕ) (count : ℕ) → count ≡ link_at t w 0 0 → count ≡ field w t 0 1
unfolding field
sort_count_is w t count e = e
