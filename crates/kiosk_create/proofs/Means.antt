-- The public call, and what an outcome of it says.
use mathlib.Core.Path.{◌≡◌, refl}
use mathlib.Core.List.{List}
use mathlib.Core.Logic.{◌⊎◌}
use Prim.Native.Nat.{ℕ, suc, ◌≤◌}
use native.Mathlib.Omega.{arith}
use Rattle.words.proofs.Laws as words
use Rattle.order.specs.First.{First}
use Rattle.order.specs.Given.{None}
use Rattle.order.specs.Beside.{Beside, beside}
use Rattle.order.specs.Answer.{Done}
use Rattle.fat_node.specs.Entry.{Bytes}
use Rattle.fat_node.specs.Sizes.{blocks}
use Rattle.fat_table.specs.Chain.{free_at}
use Rattle.fat_test.specs.Gate.{InUse, Uneven, retired}
use Rattle.fat_test.specs.Inner.Gated.{OpenedWith}
use Rattle.fat_promises.specs.Promise.{ChangePromise}
use Rattle.fat_promises.specs.Calls.{Create, create_gives}
use Rattle.fat_promises.proofs.Unique.{one_change}
use Rattle.fat.proofs.Public.{change_passed}
use Rattle.fat_history.proofs.Passes.{none_used}
use Rattle.fat_history.proofs.Means.{Went, means, keeps}
use Rattle.fat_carve.specs.Carve.{fit}
use Rattle.kiosk_create.specs.Create.{kiosk_tests, kiosk_rows, kiosk_done, KioskSound, KioskPromise}
use Rattle.kiosk_create.proofs.Kiosk.{long_found, some_asked}

-- the gate is open, and the call's own rows decide
pub kiosk_passed : (t : Bytes) (d l : ℕ) (work work' : List ℕ) (free files n count : ℕ) (o : Create) → OpenedWith (Uneven t d l) t l (retired l) work work' free files → n ≡ blocks t
    → KioskSound n t count o
    → KioskPromise t d l work count (beside o work')
kiosk_passed t d l work work' free files n count o =
    change_passed t d l work work' (λ a. create_gives a 0 t) (λ m. kiosk_rows m t count) (λ m. kiosk_done m t count) free files n o

-- one answer: the promise and its input leave one outcome
pub one_kiosk : (t : Bytes) (d l : ℕ) (work : List ℕ) (count : ℕ) (o o' : Beside Create) → KioskPromise t d l work count o → KioskPromise t d l work count o' → o ≡ o'
one_kiosk t d l work count o o' p q =
    one_change (λ a. create_gives a 0 t) t d l work (kiosk_rows (blocks t) t count) (kiosk_done (blocks t) t count) o o' p q

-- no test applies: some blocks are asked for, and a free node has so many
pub record MayKiosk (n : ℕ) (t : Bytes) (count : ℕ) : Type 0 where
  pub some : 1 ≤ count
  pub first : ℕ
  pub found : fit count (free_at n t) ≡ suc first

pub may_kiosk : (n : ℕ) (t : Bytes) (count : ℕ) → None (kiosk_tests n t count) → MayKiosk n t count
may_kiosk n t count (some, (long, _)) =
    let f = long_found count (free_at n t) long in
    record { some = some_asked count some; first = f.0; found = f.1 }

module _ (t : Bytes) (d l : ℕ) (work : List ℕ) (count : ℕ) where
  -- the gate has passed, a free node is long enough, and the outcome is what Done gives
  abbrev pub KioskWent : Beside Create → Type 0
  KioskWent o = Went t d l (retired l) work (MayKiosk (blocks t) t count) (kiosk_done (blocks t) t count) o

  pub kiosk_means : (o : Beside Create) → words.Bytes t → KioskPromise t d l work count o → o.given.answer ≡ Done → KioskWent o
  unfolding ChangePromise
  kiosk_means o g p e =
      means (λ a. create_gives a 0 t) t d l (retired l) work (kiosk_tests (blocks t) t count) (kiosk_done (blocks t) t count) (MayKiosk (blocks t) t count)
      (λ x. x.answer) (λ a. refl) refl refl (λ q n. may_kiosk (blocks t) t count n) g o p e

  -- refused, the table is as it was
  pub kiosk_keeps : (o : Beside Create) → words.Bytes t → KioskPromise t d l work count o → (o.given.table ≡ t) ⊎ KioskWent o
  unfolding ChangePromise
  kiosk_keeps o g p =
      keeps (λ a. create_gives a 0 t) t d l (retired l) work (kiosk_tests (blocks t) t count) (kiosk_done (blocks t) t count) (MayKiosk (blocks t) t count)
      (λ x. x.table) t (λ a. refl) (λ q n. may_kiosk (blocks t) t count n) g o p

  -- what went by has a block length in use
  pub kiosk_used : (o : Beside Create) → KioskWent o → InUse l
  kiosk_used o w = none_used l w.past
