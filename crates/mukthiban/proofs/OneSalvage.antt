-- One answer for the exports of salvage.
use mathlib.Core.Path.{refl}
use mathlib.Core.List.{List}
use Prim.Native.Nat.{ℕ}
use Rattle.order.specs.Beside.{beside}
use Rattle.order.specs.Answer.{Answer}
use Rattle.order.specs.declared.Fault.{Fault}
use Rattle.fat_node.specs.Entry.{Bytes}
use Rattle.salvage.specs.Calls.{chain_gives, ChainPromise}
use Rattle.salvage.proofs.Theorems.{one_chain}
use Rattle.salvage_shared.specs.Calls.{shared_gives, SharedPromise}
use Rattle.salvage_shared.proofs.Theorems.{one_shared}
use Rattle.salvage_chains.specs.Calls.{chained_gives, ChainsPromise}
use Rattle.salvage_chains.proofs.Theorems.{one_chains}
use Rattle.salvage_tree.specs.Calls.{entered_gives, EnteredPromise}
use Rattle.salvage_tree.proofs.Theorems.{one_entered}
use Rattle.salvage_way.specs.Calls.{WayPromise}
use Rattle.salvage_way.proofs.Theorems.{one_way}
use Rattle.mukthiban.proofs.One.{OneExport, one_beside}

pub export_chain : (t : Bytes) (work : List ℕ) (b : ℕ) (list : List ℕ)
    → OneExport {X = (ℕ × Fault × List ℕ) × List ℕ} (λ a x. beside (chain_gives a x.0.0 x.0.1 x.0.2) x.1) (ChainPromise t work b list)
export_chain t work b list =
    one_beside (λ (a : Answer) (x : ℕ × Fault × List ℕ). chain_gives a x.0 x.1 x.2) (λ g. g.answer) (λ g. (g.count, g.why, g.list)) (ChainPromise t work b list)
    (λ a x. refl) (λ a x. refl) (one_chain t work b list)

pub export_shared : (t : Bytes) (work firsts list : List ℕ)
    → OneExport {X = List ℕ × List ℕ} (λ a x. beside (shared_gives a x.0) x.1) (SharedPromise t work firsts list)
export_shared t work firsts list =
    one_beside (λ (a : Answer) (x : List ℕ). shared_gives a x) (λ g. g.answer) (λ g. g.list) (SharedPromise t work firsts list) (λ a x. refl) (λ a x. refl)
    (one_shared t work firsts list)

pub export_chains : (t : Bytes) (work firsts e list : List ℕ)
    → OneExport {X = (ℕ × List ℕ × List ℕ) × List ℕ} (λ a x. beside (chained_gives a x.0.0 x.0.1 x.0.2) x.1) (ChainsPromise t work firsts e list)
export_chains t work firsts e list =
    one_beside (λ (a : Answer) (x : ℕ × List ℕ × List ℕ). chained_gives a x.0 x.1 x.2) (λ g. g.answer) (λ g. (g.count, g.ends, g.list)) (ChainsPromise t work firsts e list)
    (λ a x. refl) (λ a x. refl) (one_chains t work firsts e list)

pub export_entered : (w : ℕ) (t work list : List ℕ)
    → OneExport {X = (ℕ × List ℕ) × List ℕ} (λ a x. beside (entered_gives a x.0.0 x.0.1) x.1) (EnteredPromise w t work list)
export_entered w t work list =
    one_beside (λ (a : Answer) (x : ℕ × List ℕ). entered_gives a x.0 x.1) (λ g. g.answer) (λ g. (g.count, g.list)) (EnteredPromise w t work list)
    (λ a x. refl) (λ a x. refl) (one_entered w t work list)

pub export_way : (t work : List ℕ) (x : ℕ) (list : List ℕ)
    → OneExport {X = (ℕ × List ℕ) × List ℕ} (λ a x. beside (entered_gives a x.0.0 x.0.1) x.1) (WayPromise t work x list)
export_way t work x list =
    one_beside (λ (a : Answer) (x : ℕ × List ℕ). entered_gives a x.0 x.1) (λ g. g.answer) (λ g. (g.count, g.list)) (WayPromise t work x list)
    (λ a x. refl) (λ a x. refl) (one_way t work x list)
