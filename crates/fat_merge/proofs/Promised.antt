-- merge keeps its promise, where the gate refuses and where the table is merged.
use mathlib.Core.Path.{◌≡◌, refl, sym, ap, subst⁻¹, ◌∙◌}
use mathlib.Core.Bool.{Bool, true, false}
use mathlib.Core.List.{List, [], ◌++◌}
use mathlib.Core.Logic.{inl, inr}
use Rattle.std.specs.Prelude.{Err}
use Prim.Native.Nat.{ℕ, ◌≤◌, ◌<◌}
use native.Mathlib.Omega.{arith}
use lib.ListN.{length, take, drop, replicate, length-append, length-replicate}
use lib.Seq.{length-take-le, take_at, drop_at}
use Rattle.order.specs.First.{Row}
use Rattle.order.specs.Gate.{cleared}
use Rattle.order.specs.Tells.{Tells}
use Rattle.order.specs.Beside.{Beside, beside}
use Rattle.order.specs.Answer.{Answer, Done, ReadOnlyVolume}
use Rattle.order.specs.declared.Refusal.{Refusal}
use Rattle.order.proofs.Beside as rows
use Rattle.order.proofs.Gate.{gate_given, gate_none}
use Rattle.order.proofs.One.{one}
use Rattle.fat_node.specs.Entry.{Bytes}
use Rattle.fat_node.specs.Sizes.{blocks, Misfit}
use Rattle.fat_node.proofs.Sizes.{fit, inside}
use Rattle.fat_test.specs.Gate.{InUse, retired, unsound, Unfit, table_gate}
use Rattle.fat_test.specs.Inner.Gated.{OpenedWith, TableGateOf}
use Rattle.fat_test.proofs.Change.{not_in_use}
use Rattle.fat_promises.specs.Calls.{Change, change_gives}
use Rattle.fat_walk.specs.Volume.{Volume}
use Rattle.fat_merge.specs.Merge.{merged}
use Rattle.fat_merge.specs.Promise.{merge_done, MergeSound, MergePromise}

-- what the gate tells of merge's rows
module _ (t : Bytes) (l : ℕ) (work work' : List ℕ) where
  abbrev refuse : Answer → List ℕ → Beside Change
  refuse a w = beside (change_gives a t) w

  abbrev front : List (Row (Beside Change))
  front = table_gate refuse t l work

  -- it refuses
  pub merge_refused : (why : Refusal) → TableGateOf t l work work' (Err why) → MergePromise t l work (beside (change_gives (Err why) t) work')
  merge_refused why g =
      rows.refused front (cleared (blocks t) work) [] (merge_done (blocks t) t) (refuse (Err why) work')
      (gate_given refuse (blocks t) work (Misfit t) (Unfit t l) (length work < blocks t) (unsound t ++ retired l) (Err why) work' g)

  module _ (free files : ℕ) (opened : OpenedWith (Misfit t) t l (retired l) work work' free files) (n : ℕ) (q : n ≡ blocks t) where
    -- the work list is cleared
    work_is : work' ≡ replicate n 0 ++ drop n work
    work_is = opened.clear ∙ ap (λ (m : ℕ). cleared m work) (sym q)

    -- the table may be worked on
    pub merge_volume : Volume n t
    merge_volume =
        subst⁻¹ (λ (m : ℕ). Volume m t) q
        (record { few = (inside t (λ o. opened.none.1.0 (inl o))).1; room = fit t opened.none.0; sound = opened.sound })

    -- its first n places are lent on, all 0
    pub merge_fits : n ≤ length work'
    merge_fits =
        omega (
          arith,
          ap {B = ℕ} length work_is,
          length-append (replicate {A = ℕ} n 0) (drop n work),
          length-replicate {A = ℕ} n 0,
        )

    pub merge_long : n ≡ length (take n work')
    merge_long = sym (length-take-le n work' merge_fits)

    pub merge_lent : take n work' ≡ replicate n 0
    merge_lent = ap (take n) work_is ∙ take_at (replicate n 0) (drop n work) n (length-replicate {A = ℕ} n 0)

    pub merge_done_lem : (t' : Bytes) (w : List ℕ) → t' ≡ merged n t → w ≡ replicate n 0 → MergePromise t l work (beside (change_gives Done t') (w ++ drop n work'))
    merge_done_lem t' w f z =
        let d : drop n work' ≡ drop n work = ap (drop n) work_is ∙ drop_at (replicate n 0) (drop n work) n (length-replicate {A = ℕ} n 0) in
        let a : w ++ drop n work' ≡ cleared (blocks t) work =
        ap (λ (x : List ℕ). x ++ drop n work') z ∙ ap (λ (x : List ℕ). replicate n 0 ++ x) d ∙ ap (λ (m : ℕ). cleared m work) q in
        subst⁻¹ (λ (x : List ℕ). MergePromise t l work (beside (change_gives Done t') x)) a
        (rows.passed front (cleared (blocks t) work) [] (merge_done (blocks t) t) (change_gives Done t')
        (gate_none refuse (blocks t) work (Misfit t) (Unfit t l) (length work < blocks t) (unsound t ++ retired l) opened.none)
        (ap (change_gives Done) (f ∙ ap (λ (m : ℕ). merged m t) q)))

-- the side that tested once: with a block length in use the table is merged, with another nothing changes
module _ (n : ℕ) (t : Bytes) (l : ℕ) (b : Bool) (u : Tells (InUse l) b) where
  pub tested_done : b ≡ true → (t' : Bytes) → t' ≡ merged n t → MergeSound n t l (change_gives Done t')
  tested_done e t' q = inr ((λ z. z (u.yes e)), ap (change_gives Done) q)

  pub tested_retired : b ≡ false → MergeSound n t l (change_gives ReadOnlyVolume t)
  tested_retired e = inl (not_in_use l b u e, refl)

-- one answer: merge's promise and its input leave one outcome
pub one_merge : (t : Bytes) (l : ℕ) (work : List ℕ) (o o' : Beside Change) → MergePromise t l work o → MergePromise t l work o' → o ≡ o'
one_merge t l work o o' p q =
    one (table_gate (λ a w. beside (change_gives a t) w) t l work ++ []) (beside (merge_done (blocks t) t) (cleared (blocks t) work)) o o' p q
