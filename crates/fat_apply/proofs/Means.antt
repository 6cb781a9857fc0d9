-- What an outcome of apply says.
use mathlib.Core.Path.{◌≡◌, refl}
use mathlib.Core.List.{List}
use mathlib.Core.Logic.{◌⊎◌}
use Prim.Native.Nat.{ℕ}
use lib.ListN.{length}
use Rattle.words.proofs.Laws as words
use Rattle.order.specs.Beside.{Beside}
use Rattle.order.specs.Answer.{Done}
use Rattle.fat_node.specs.Entry.{Bytes}
use Rattle.fat_node.specs.Sizes.{blocks}
use Rattle.fat_test.specs.Gate.{InUse, retired}
use Rattle.fat_promises.specs.Promise.{ChangePromise}
use Rattle.fat_history.proofs.Passes.{none_used}
use Rattle.fat_history.proofs.Means.{Went, means, keeps}
use Rattle.fat_plan.specs.Promise.{check_tests, MayCheck}
use Rattle.fat_plan.proofs.May.{may_check}
use Rattle.fat_apply.specs.Apply.{Apply, apply_gives, apply_done, ApplyPromise}

module _ (t d : Bytes) (l : ℕ) (work : List ℕ) (b : ℕ) (plan : List ℕ) where
  -- the gate has passed, the plan is accepted, and the outcome is what Done gives
  abbrev pub ApplyWent : Beside Apply → Type 0
  ApplyWent o = Went t (length d) l (retired l) work (MayCheck (blocks t) t b plan) (apply_done (blocks t) t d l b plan) o

  pub apply_means : (o : Beside Apply) → words.Bytes t → ApplyPromise t d l work b plan o → o.given.answer ≡ Done → ApplyWent o
  unfolding ChangePromise
  apply_means o g p e =
      means (λ a. apply_gives a 0 t d) t (length d) l (retired l) work (check_tests (blocks t) t b plan) (apply_done (blocks t) t d l b plan) (MayCheck (blocks t) t b plan)
      (λ x. x.answer) (λ a. refl) refl refl (λ q n. may_check (blocks t) t b plan q.whole n) g o p e

  -- refused, table and data are as they were
  pub apply_keeps : (o : Beside Apply) → words.Bytes t → ApplyPromise t d l work b plan o
      → (◌≡◌ {A = Bytes × Bytes} (o.given.table, o.given.bytes) (t, d)) ⊎ ApplyWent o
  unfolding ChangePromise
  apply_keeps o g p =
      keeps (λ a. apply_gives a 0 t d) t (length d) l (retired l) work (check_tests (blocks t) t b plan) (apply_done (blocks t) t d l b plan) (MayCheck (blocks t) t b plan)
      (λ x. (x.table, x.bytes)) (t, d) (λ a. refl) (λ q n. may_check (blocks t) t b plan q.whole n) g o p

  -- what went by has a block length in use
  pub apply_used : (o : Beside Apply) → ApplyWent o → InUse l
  apply_used o w = none_used l w.past
