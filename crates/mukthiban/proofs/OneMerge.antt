-- One answer for the export of merge, and for its inner export.
use mathlib.Core.Path.{refl}
use mathlib.Core.List.{List, []}
use Prim.Native.Nat.{ℕ}
use Rattle.order.specs.Beside.{beside}
use Rattle.order.specs.Answer.{Answer}
use Rattle.fat_node.specs.Entry.{Bytes}
use Rattle.fat_promises.specs.Promise.{change_rows}
use Rattle.fat_promises.specs.Calls.{change_gives}
use Rattle.fat_merge.specs.Promise.{merge_done, MergeSound, MergePromise}
use Rattle.fat_merge.proofs.Promised.{one_merge}
use Rattle.mukthiban.proofs.One.{OneLocated, one_located_beside}
use Rattle.mukthiban.proofs.OneInner.{inner_change}

pub export_merge : (t : Bytes) (l : ℕ) (work : List ℕ) → OneLocated {X = Bytes × List ℕ} (λ a x. beside (change_gives a x.0) x.1) (MergePromise t l work)
export_merge t l work =
    one_located_beside (λ (a : Answer) (x : Bytes). change_gives a x) (λ g. g.answer) (λ g. g.table) (MergePromise t l work) (λ a x. refl) (λ a x. refl) (one_merge t l work)

pub inner_merge : (n : ℕ) (t : Bytes) (l : ℕ) → OneLocated {X = Bytes} (λ a x. change_gives a x) (MergeSound n t l)
inner_merge n t l = inner_change (change_rows (λ a. change_gives a t) l []) (merge_done n t)
