-- What an outcome of merge says.
use mathlib.Core.Path.{◌≡◌, refl}
use mathlib.Core.List.{List, [], ◌++◌}
use mathlib.Core.Logic.{◌⊎◌, inl, inr, ⊎_elim}
use Prim.Native.Nat.{ℕ, ◌<◌}
use native.Mathlib.Omega.{arith}
use lib.ListN.{length}
use Rattle.words.proofs.Laws as words
use Rattle.order.specs.First.{Row}
use Rattle.order.specs.Gate.{cleared}
use Rattle.order.specs.Beside.{Beside, beside}
use Rattle.order.specs.Answer.{Answer}
use Rattle.order.specs.Answer.{Done, SizeMismatch, InvalidValue, WorkTooShort}
use Rattle.fat_node.specs.Entry.{Bytes}
use Rattle.fat_node.specs.Sizes.{blocks, Misfit}
use Rattle.fat_table.proofs.Files.{Whole}
use Rattle.fat_test.specs.Gate.{InUse, retired, unsound, Unfit, table_gate}
use Rattle.fat_promises.specs.Calls.{Change, change_gives}
use Rattle.fat_history.proofs.Rows.{last_or, each_append, each_gate, each_refuses, none_append, not_done}
use Rattle.fat_history.proofs.Passes.{Fits, fits, sound_stable, whole_of_fits, none_used}
use Rattle.fat_merge.specs.Promise.{merge_done, MergePromise}

-- merge was refused, and the table is as it was
pub record Refused (t : Bytes) (o : Beside Change) : Type 0 where
  pub answer : o.given.answer ≡ Done → ⊥
  pub table : o.given.table ≡ t

-- merge went by: the test accepted the table, the block length is in use, and the outcome is what Done gives
pub record Went (t : Bytes) (l : ℕ) (work : List ℕ) (o : Beside Change) : Type 0 where
  pub fits : Fits t
  pub whole : Whole (blocks t) t
  pub used : InUse l
  pub is : o ≡ beside (merge_done (blocks t) t) (cleared (blocks t) work)

module _ (t : Bytes) (l : ℕ) (work : List ℕ) (o : Beside Change) (g : words.Bytes t) where
  abbrev refuse : Answer → List ℕ → Beside Change
  refuse a w = beside (change_gives a t) w

  abbrev front : List (Row (Beside Change))
  front = table_gate refuse t l work

  pub merge_cases : MergePromise t l work o → Refused t o ⊎ Went t l work o
  merge_cases p =
      ⊎_elim (λ r. inl r)
      (λ w.
      let n = (none_append front [] w.0).0 in
      let f : Fits t = fits t n.0 (λ h. n.1.0 (inl h)) in
      inr (record {
        fits = f;
        whole = whole_of_fits t g f (sound_stable t g f n.1.1.1.0);
        used = none_used l n.1.1.1.1;
        is = w.1;
      }))
      (last_or (Refused t) (front ++ []) (beside (merge_done (blocks t) t) (cleared (blocks t) work)) o
      (each_append (Refused t) front []
      (each_gate (Refused t) refuse (λ a. a ≡ Done → ⊥) (λ a w q. record { answer = q; table = refl }) (not_done SizeMismatch (omega arith))
      (not_done InvalidValue (omega arith)) (not_done WorkTooShort (omega arith)) (Misfit t) (Unfit t l) (length work < blocks t) (unsound t ++ retired l) (blocks t) work
      (each_refuses (unsound t ++ retired l) refl))
      tt)
      p)

  -- answered Done, it went by
  pub merge_means : MergePromise t l work o → o.given.answer ≡ Done → Went t l work o
  merge_means p e = ⊎_elim (λ r. absurd (r.answer e)) (λ w. w) (merge_cases p)
