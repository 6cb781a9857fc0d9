-- One answer.
use mathlib.Core.Path.{◌≡◌}
use mathlib.Core.List.{List, ◌++◌}
use Prim.Native.Nat.{ℕ}
use Rattle.order.specs.Gate.{cleared}
use Rattle.order.specs.Beside.{Beside, beside, within}
use Rattle.order.proofs.One.{one}
use Rattle.fat_node.specs.Entry.{Bytes}
use Rattle.fat_node.specs.Sizes.{blocks}
use Rattle.salvage_shared.specs.Calls.{Shared, shared_gives, shared_rows, shared_done, shared_gate, SharedPromise}

-- the promise and what is lent leave one outcome
pub one_shared : (t : Bytes) (work firsts list : List ℕ) (o o' : Beside Shared) → SharedPromise t work firsts list o → SharedPromise t work firsts list o' → o ≡ o'
one_shared t work firsts list o o' p q =
    one (shared_gate (λ a w. beside (shared_gives a list) w) t work firsts ++ within (cleared (blocks t) work) (shared_rows firsts list))
    (beside (shared_done (blocks t) t firsts list) (cleared (blocks t) work)) o o' p q
