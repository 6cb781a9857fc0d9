-- One answer for the exports of plans, and for their inner exports.
use mathlib.Core.Path.{refl}
use mathlib.Core.List.{List}
use Prim.Native.Nat.{ℕ}
use Rattle.order.specs.Beside.{beside}
use Rattle.order.specs.Answer.{Answer}
use Rattle.order.specs.Answer.{Done}
use Rattle.order.proofs.One.{one}
use Rattle.fat_node.specs.Entry.{Bytes}
use Rattle.fat_promises.specs.Promise.{change_rows}
use Rattle.fat_promises.specs.Calls.{list_gives}
use Rattle.fat_plan.specs.Promise.{check_tests, CheckSound, CheckPromise, find_rows, find_done, FindSound, FindPromise}
use Rattle.fat_plan.proofs.Theorems.{one_check, one_find}
use Rattle.fat_apply.specs.Apply.{apply_gives, apply_rows, apply_done, ApplyTested, ApplyPromise}
use Rattle.fat_apply.proofs.Public.{one_apply}
use Rattle.mukthiban.proofs.One.{OneLocated, one_located, one_located_beside}

pub export_check : (t : Bytes) (d l : ℕ) (work : List ℕ) (b : ℕ) (plan : List ℕ)
    → OneLocated {X = List ℕ} (λ a x. beside a x) (CheckPromise t d l work b plan)
export_check t d l work b plan =
    one_located (λ (a : Answer) (x : List ℕ). beside a x) (λ o. o.given) (λ o. o.work) (CheckPromise t d l work b plan) (λ a x. refl) (λ a x. refl)
    (one_check t d l work b plan)

pub export_apply : (t d : Bytes) (l : ℕ) (work : List ℕ) (b : ℕ) (plan : List ℕ)
    → OneLocated {X = (ℕ × Bytes × Bytes) × List ℕ} (λ a x. beside (apply_gives a x.0.0 x.0.1 x.0.2) x.1) (ApplyPromise t d l work b plan)
export_apply t d l work b plan =
    one_located_beside (λ (a : Answer) (x : ℕ × Bytes × Bytes). apply_gives a x.0 x.1 x.2) (λ g. g.answer) (λ g. (g.first, g.table, g.bytes))
    (ApplyPromise t d l work b plan) (λ a x. refl) (λ a x. refl) (one_apply t d l work b plan)

pub export_find : (t : Bytes) (d l : ℕ) (work : List ℕ) (b : ℕ) (list : List ℕ)
    → OneLocated {X = (ℕ × List ℕ) × List ℕ} (λ a x. beside (list_gives a x.0.0 x.0.1) x.1) (FindPromise t d l work b list)
export_find t d l work b list =
    one_located_beside (λ (a : Answer) (x : ℕ × List ℕ). list_gives a x.0 x.1) (λ g. g.answer) (λ g. (g.count, g.list)) (FindPromise t d l work b list)
    (λ a x. refl) (λ a x. refl) (one_find t d l work b list)

-- the inner exports; that each leaves its work list as it is lent stands in their promises

pub inner_check : (n : ℕ) (t : Bytes) (b : ℕ) (plan : List ℕ) → OneLocated {X = Unit {0}} (λ a x. a) (CheckSound n t b plan)
inner_check n t b plan =
    one_located (λ (a : Answer) (x : Unit {0}). a) (λ g. g) (λ g. tt) (CheckSound n t b plan) (λ a x. refl) (λ a x. refl) (one (check_tests n t b plan) Done)

pub inner_apply : (n : ℕ) (t d : Bytes) (l b : ℕ) (plan : List ℕ)
    → OneLocated {X = ℕ × Bytes × Bytes} (λ a x. apply_gives a x.0 x.1 x.2) (ApplyTested n t d l b plan)
inner_apply n t d l b plan =
    one_located (λ (a : Answer) (x : ℕ × Bytes × Bytes). apply_gives a x.0 x.1 x.2) (λ g. g.answer) (λ g. (g.first, g.table, g.bytes))
    (ApplyTested n t d l b plan) (λ a x. refl) (λ a x. refl) (one (change_rows (λ a. apply_gives a 0 t d) l (apply_rows n t d b plan)) (apply_done n t d l b plan))

pub inner_find : (n : ℕ) (t : Bytes) (b : ℕ) (list : List ℕ) → OneLocated {X = ℕ × List ℕ} (λ a x. list_gives a x.0 x.1) (FindSound n t b list)
inner_find n t b list =
    one_located (λ (a : Answer) (x : ℕ × List ℕ). list_gives a x.0 x.1) (λ g. g.answer) (λ g. (g.count, g.list)) (FindSound n t b list)
    (λ a x. refl) (λ a x. refl) (one (find_rows n t b list) (find_done n t b list))
