-- What the call that tells of some chains promises.
use Rattle.std.specs.Prelude.{List, [], ◌∷◌, ◌++◌, ◌⊎◌, ℕ, ◌<◌, length, drop}
use Rattle.order.specs.First.{Row, row}
use Rattle.order.specs.Gate.{cleared, gate}
use Rattle.order.specs.Giving.{giving}
use Rattle.order.specs.Beside.{Beside, beside, Promised}
use Rattle.order.specs.Answer.{Answer}
use Rattle.order.specs.Answer.{Done, ListTooShort}
use Rattle.fat_node.specs.Entry.{Bytes}
use Rattle.fat_node.specs.Sizes.{blocks, Misfit, Outside}
use Rattle.salvage_shared.specs.Shared.{trusts}

-- the answer, the lent list afterwards
pub record Shared : Type 0 where
  pub answer : Answer
  pub list : List ℕ

-- the same, by its parts
abbrev pub shared_gives : (answer : Answer) (list : List ℕ) → Shared
shared_gives answer list = record { answer = answer; list = list }

-- its refusal: a list with fewer places than there are first blocks stays as it was
abbrev pub shared_rows : (firsts list : List ℕ) → List (Row Shared)
shared_rows firsts list = giving (λ a. shared_gives a list) (row (length list < length firsts) ListTooShort ∷ [])

-- Done: what is told of each, in the order of the first blocks; later places stay
abbrev pub shared_done : (n : ℕ) (t : Bytes) (firsts list : List ℕ) → Shared
shared_done n t firsts list = shared_gives Done (trusts n t firsts ++ drop (length firsts) list)

-- the rows of sizes and work list; more than 1,000,000 first blocks are a size that is out of bounds
abbrev pub shared_gate : {A : Type 0} (refuse : Answer → List ℕ → A) (t : Bytes) (work firsts : List ℕ) → List (Row A)
shared_gate refuse t work firsts = gate refuse (Misfit t) (Outside t ⊎ (1000000 < length firsts)) (length work < blocks t) [] (blocks t) work

-- the promise of the call
abbrev pub SharedPromise : (t : Bytes) (work firsts list : List ℕ) → Beside Shared → Type 0
SharedPromise t work firsts list =
    Promised (shared_gate (λ a w. beside (shared_gives a list) w) t work firsts) (cleared (blocks t) work) (shared_rows firsts list)
    (shared_done (blocks t) t firsts list)
