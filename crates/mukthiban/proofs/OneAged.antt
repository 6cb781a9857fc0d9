-- One answer for the export that tells whether an honest writer can have left the tables.
use mathlib.Core.Path.{refl}
use mathlib.Core.List.{List}
use Prim.Native.Nat.{ℕ}
use Rattle.order.specs.Beside.{beside}
use Rattle.order.specs.Answer.{Answer}
use Rattle.tree_sound.specs.Tables.{Tables}
use Rattle.tree_aged.specs.Calls.{age_gives, AgedPromise}
use Rattle.tree_aged.proofs.Theorems.{one_aged}
use Rattle.mukthiban.proofs.One.{OneExport, one_beside}

pub export_aged : (s : Tables) (work : List ℕ)
    → OneExport {X = (ℕ × ℕ) × List ℕ} (λ a x. beside (age_gives a x.0.0 x.0.1) x.1) (AgedPromise s work)
export_aged s work =
    one_beside (λ (a : Answer) (x : ℕ × ℕ). age_gives a x.0 x.1) (λ g. g.answer) (λ g. (g.table, g.inode)) (AgedPromise s work)
    (λ a x. refl) (λ a x. refl) (one_aged s work)
