-- One table's test as a whole: its front, its lists, and the marks that are left.
use mathlib.Core.Path.{◌≡◌, refl, sym, ap, ◌∙◌, subst}
use mathlib.Core.List.{List}
use mathlib.Core.Logic.{inl, inr, ⊎_elim}
use mathlib.Core.Bool.{Bool, true, false, false≢true}
use Prim.Native.Nat.{ℕ, ◌+◌, ◌-◌, ◌*◌, ◌/◌, ◌≤◌, ◌<◌}
use native.Mathlib.Omega.{arith}
use native.Mathlib.Nat.{mul-le-mul_right, div-mul-le_self}
use lib.ListN.{length}
use Rattle.std.proofs.Common.{Option, Some}
use Rattle.std.specs.Option.{is_some}
use Rattle.tree_table.specs.Field.{field}
use Rattle.tree_table.specs.View.{removed_of}
use Rattle.tree_table.specs.Chain.{link_at}
use Rattle.links.specs.Links.{◌∈◌, Links}
use Rattle.links.proofs.Laws.{one_list, positive}
use Rattle.order.specs.Tells.{Tells}
use Rattle.tree_marks.specs.Inner.Marks.{gone, mark_at, Within}
use Rattle.tree_marks.proofs.Gathering.{in_or}
use Rattle.tree_apart.specs.Inner.Apart.{Bounded, Swept, Sifted}
use Rattle.tree_marks.specs.Inner.Gather.{bucket_at, GoneKept}
use Rattle.tree_marks.proofs.Walks.{within_refl, within_trans, within_more}
use Rattle.tree_sound.specs.Sound.{Table}
use Rattle.tree_alone.specs.Inner.Stage.{OnlyGone, alone_view, FrontFits, TableSorted, TableCounted, TableTested}
use Rattle.tree_alone.proofs.OneTable.{clean_of}

-- the removed list of a sound table, as the code walks it
removed_links : (h t : List ℕ) (w root : ℕ) (head : ℕ → ℕ) → Table (alone_view h t w root head) → Links (link_at t w (w - 4)) (link_at t w (w - 4) 0) (removed_of (alone_view h t w root head))
unfolding field
removed_links h t w root head T = T.removed

-- marks swept and set anew are those of the removed entries
clean_swept : (h t : List ℕ) (w root : ℕ) (head : ℕ → ℕ) {R : List ℕ} {W : ℕ → ℕ} → Table (alone_view h t w root head) → Swept t w (field w t 0 1) R W
    → OnlyGone (field w t 0 1) (removed_of (alone_view h t w root head)) W
clean_swept h t w root head {R} {W} T S =
    subst (λ l. OnlyGone (field w t 0 1) l W)
    (one_list (link_at t w (w - 4)) (link_at t w (w - 4) 0) (link_at t w (w - 4) 0) R (removed_of (alone_view h t w root head)) refl S.links (removed_links h t w root head T))
    (record {
      removed = λ y. (S.dead y, λ (e : W y ≡ gone). ⊎_elim (λ (m : y ∈ R). m) (λ (m : y ∈ R → ⊥). absurd (let z : W y ≡ 0 = S.others y m in omega arith)) (in_or y R));
      below = λ y n.
          ⊎_elim (λ (m : y ∈ R). (positive (link_at t w (w - 4)) (link_at t w (w - 4) 0) R S.links y m, S.below y m)) (λ (m : y ∈ R → ⊥). absurd (n (S.others y m))) (in_or y R);
      only = λ y. ⊎_elim (λ (m : y ∈ R). inr (S.dead y m)) (λ (m : y ∈ R → ⊥). inl (S.others y m)) (in_or y R);
    })

-- the numbers at a table's front
abbrev pub Numbers : ℕ → ℕ → ℕ → ℕ → Type 0
Numbers count maximum room least = (maximum ≤ room) × (1 ≤ count) × (count ≤ maximum) × (least ≤ count)

-- entries below a number that the room has lie in the table
pub rooms_fit : (t : List ℕ) (w n : ℕ) → n ≤ length t / w → n * w ≤ length t
rooms_fit t w n h =
    let a : n * w ≤ length t / w * w = mul-le-mul_right w h in
    let b : length t / w * w ≤ length t = div-mul-le_self (length t) w in omega arith

module _ (h t : List ℕ) (w least off : ℕ) (work : List ℕ) {count maximum : ℕ} {r1 : Bool} (ec : count ≡ link_at t w 0 0) (em : maximum ≡ link_at t w 4 0)
    (N : Tells (Numbers count maximum (length t / w) least) r1) where
  pub count_is : count ≡ field w t 0 1
  unfolding field
  count_is = ec

  maximum_is : maximum ≡ field w t 0 2
  unfolding field
  maximum_is = em

  numbers : (root : ℕ) (head : ℕ → ℕ) → Table (alone_view h t w root head) → least ≤ field w t 0 1 → Numbers count maximum (length t / w) least
  numbers root head T l = (
    subst (λ z. z ≤ length t / w) (sym maximum_is) T.max_room,
    subst (λ z. 1 ≤ z) (sym count_is) T.count_one,
    subst (λ z. z ≤ maximum) (sym count_is) (subst (λ z. field w t 0 1 ≤ z) (sym maximum_is) T.count_max),
    subst (λ z. least ≤ z) (sym count_is) l,
  )

  pub single_front : r1 ≡ false → TableTested h t w least off work work false
  single_front e = record {
    good = λ q. absurd (false≢true q);
    bad = λ _ root head T l. false≢true (sym e ∙ N.only (numbers root head T l));
    within = within_refl off (length t / w) work;
  }

  module _ (e1 : r1 ≡ true) {w1 : List ℕ} {r : Option ℕ} (C : TableCounted h t w off work w1 r) where
    S : TableSorted h t w off work w1 (is_some r)
    S = C.sorted

    low : field w t 0 1 ≤ length t / w
    low =
        let n = N.yes e1 in
        let a : count ≤ maximum = n.2 in let b : maximum ≤ length t / w = n.0 in let k : count ≡ field w t 0 1 = count_is in omega arith

    pub single_lists : is_some r ≡ false → TableTested h t w least off work w1 false
    single_lists e = record {
      good = λ q. absurd (false≢true q);
      bad = λ _ root head T l. S.bad e root head T;
      within = within_more (length t / w) low S.within;
    }

    front : (root : ℕ) (head : ℕ → ℕ) → FrontFits (alone_view h t w root head)
    front root head =
        let n = N.yes e1 in record {
          max_room = subst (λ z. z ≤ length t / w) maximum_is n.0;
          count_one = subst (λ z. 1 ≤ z) count_is n.1;
          count_max = subst (λ z. z ≤ field w t 0 2) count_is (subst (λ z. count ≤ z) maximum_is n.2);
        }

    pub single_good : {n : ℕ} → r ≡ Some n → n ≤ 64 → {w2 : List ℕ} → GoneKept off count w1 w2 → TableTested h t w least off work w2 true
    single_good {n = k} p few {w2} K = record {
      good = λ _ root head.
          let n = N.yes e1 in
          let s = S.good (ap is_some p) (record { right = λ j a b f. absurd (false≢true (sym ((C.near k p few).near j a b) ∙ f)) }) root head (front root head) in
          let K' : GoneKept off (field w t 0 1) w1 w2 = subst (λ z. GoneKept off z w1 w2) count_is K in (
            s.0,
            subst (λ z. least ≤ z) count_is n.3,
            clean_of (link_at t w (w - 4)) (bucket_at h) (removed_of (alone_view h t w root head)) (length h / 4 + 1) s.1 K' (λ y b. K'.within.behind (off + y) (omega arith)),
          );
      bad = λ q. absurd (false≢true (sym q));
      within = within_trans (within_more (length t / w) low S.within) (within_more (length t / w) low (subst (λ z. Within off z w1 w2) count_is K.within));
    }

    -- the buckets, by the count that the code holds
    pub single_bounded : {n : ℕ} → r ≡ Some n → Bounded h t w count
    single_bounded p = subst (λ z. Bounded h t w z) (sym count_is) (S.bounded (ap is_some p))

    -- no mark beyond count
    pub single_beyond : ((y : ℕ) → mark_at work off y ≡ 0) → (y : ℕ) → count ≤ y → mark_at w1 off y ≡ 0
    single_beyond zeros y l = S.within.behind (off + y) (omega (arith, count_is)) ∙ zeros y

    -- the long buckets were sorted, and the removed entries marked anew
    pub single_far : {n : ℕ} → r ≡ Some n → {w2 : List ℕ} {r3 : Bool} → Sifted h t w count off w1 w2 r3 → TableTested h t w least off work w2 r3
    single_far p {w2} {r3} G = record {
      good = λ q root head.
          let n = N.yes e1 in
          let g = G.good q in
          let s = S.good (ap is_some p) g.0 root head (front root head) in (
            s.0,
            subst (λ z. least ≤ z) count_is n.3,
            clean_swept h t w root head s.0 (subst (λ z. Swept t w z g.1.0 (mark_at w2 off)) count_is g.1.1),
          );
      bad = λ q root head T l.
          G.bad q (S.apart (ap is_some p) root head T) (removed_of (alone_view h t w root head)) (removed_links h t w root head T)
          (λ y m. subst (λ z. y < z) (sym count_is) (T.removed_below y m));
      within = within_trans (within_more (length t / w) low S.within) (within_more (length t / w) low (subst (λ z. Within off z w1 w2) count_is G.within));
    }
