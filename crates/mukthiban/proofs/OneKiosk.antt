-- One answer for the exports of the kiosk's test and create, and for their inner exports.
use mathlib.Core.Path.{refl}
use mathlib.Core.List.{List}
use Prim.Native.Nat.{ℕ}
use Rattle.order.specs.Beside.{beside}
use Rattle.order.specs.Answer.{Answer}
use Rattle.order.specs.Answer.{Done}
use Rattle.order.proofs.One.{one}
use Rattle.fat_node.specs.Entry.{Bytes}
use Rattle.tree_sound.specs.Tables.{Tables}
use Rattle.fat_promises.specs.Promise.{change_rows}
use Rattle.fat_promises.specs.Calls.{create_gives}
use Rattle.kiosk_create.specs.Create.{kiosk_rows, kiosk_done, KioskTested, KioskPromise}
use Rattle.kiosk_create.proofs.Means.{one_kiosk}
use Rattle.kiosk.specs.Promise.{Profile, profile_gives, profile_rows, TestPromise, TestSays}
use Rattle.kiosk.proofs.Unique.{one_test}
use Rattle.mukthiban.proofs.One.{OneLocated, one_located, one_located_beside}

pub export_kiosk_test : (t : Bytes) (d l : ℕ) (s : Tables) (work : List ℕ)
    → OneLocated {X = ℕ × List ℕ} (λ a x. beside (profile_gives a x.0) x.1) (TestPromise t d l s work)
export_kiosk_test t d l s work =
    one_located_beside (λ (a : Answer) (x : ℕ). profile_gives a x) (λ g. g.answer) (λ g. g.broken) (TestPromise t d l s work) (λ a x. refl) (λ a x. refl)
    (one_test t d l s work)

pub export_kiosk_create : (t : Bytes) (d l : ℕ) (work : List ℕ) (count : ℕ)
    → OneLocated {X = (ℕ × Bytes) × List ℕ} (λ a x. beside (create_gives a x.0.0 x.0.1) x.1) (KioskPromise t d l work count)
export_kiosk_create t d l work count =
    one_located_beside (λ (a : Answer) (x : ℕ × Bytes). create_gives a x.0 x.1) (λ g. g.answer) (λ g. (g.first, g.table)) (KioskPromise t d l work count)
    (λ a x. refl) (λ a x. refl) (one_kiosk t d l work count)

pub inner_kiosk_test : (n : ℕ) (t : Bytes) (l : ℕ) (d f : Bytes) (work work' : List ℕ) → OneLocated {X = ℕ} (λ a x. profile_gives a x) (TestSays n t l d f work work')
inner_kiosk_test n t l d f work work' =
    one_located (λ (a : Answer) (x : ℕ). profile_gives a x) (λ g. g.answer) (λ g. g.broken) (TestSays n t l d f work work') (λ a x. refl) (λ a x. refl)
    (λ (o o' : Profile) p q. one (profile_rows n t l d f) (profile_gives Done 0) o o' p.says q.says)

pub inner_kiosk_create : (n : ℕ) (t : Bytes) (l count : ℕ) → OneLocated {X = ℕ × Bytes} (λ a x. create_gives a x.0 x.1) (KioskTested n t l count)
inner_kiosk_create n t l count =
    one_located (λ (a : Answer) (x : ℕ × Bytes). create_gives a x.0 x.1) (λ g. g.answer) (λ g. (g.first, g.table)) (KioskTested n t l count)
    (λ a x. refl) (λ a x. refl) (one (change_rows (λ a. create_gives a 0 t) l (kiosk_rows n t count)) (kiosk_done n t count))
