-- What the call that follows one chain promises. n is the number of blocks, t the table, b the given block.
use Rattle.std.specs.Prelude.{Result, Ok, Err, List, [], ◌∷◌, ◌++◌, ℕ, ◌<◌, length, drop}
use Rattle.order.specs.First.{Row, row}
use Rattle.order.specs.Gate.{cleared, gate}
use Rattle.order.specs.Giving.{giving}
use Rattle.order.specs.Beside.{Beside, beside, Promised}
use Rattle.order.specs.Answer.{unbroken}
use Rattle.order.specs.Answer.{Answer}
use Rattle.order.specs.Answer.{Done, NotAFile, ListTooShort}
use Rattle.order.specs.declared.Fault.{Fault}
use Rattle.order.specs.declared.Refusal.{Refusal}
use Rattle.fat_node.specs.Entry.{Bytes}
use Rattle.fat_node.specs.Node.{NodeAt}
use Rattle.fat_node.specs.Sizes.{blocks, Misfit, Outside}
use Rattle.fat_table.specs.Chain.{total}
use Rattle.fat_promises.specs.Blocks.{blocks_of}
use Rattle.salvage.specs.Follow.{salvaged}
use Rattle.salvage.specs.declared.Walked.{Walked}

-- the answer, the number of blocks, why there are no more, the lent list afterwards
pub record Followed : Type 0 where
  pub answer : Answer
  pub count : ℕ
  pub why : Fault
  pub list : List ℕ

-- the same, by its parts
abbrev pub chain_gives : (answer : Answer) (count : ℕ) (why : Fault) (list : List ℕ) → Followed
chain_gives answer count why list = record { answer = answer; count = count; why = why; list = list }

-- what the call gives, and the lent list afterwards; with a refusal all numbers are 0
abbrev pub chain_says : Result Walked Refusal → (list : List ℕ) → Followed
chain_says (Ok w) list = chain_gives Done w.count w.why list
chain_says (Err why) list = chain_gives (Err why) 0 unbroken list

-- its tests, for a list of room places: no node can be read at block b (so also where b is no block), and a list that can't hold the blocks
abbrev pub chain_tests : (n : ℕ) (t : Bytes) (b room : ℕ) → List (Row Answer)
chain_tests n t b room =
    row ((s : ℕ) → NodeAt t n b s → ⊥) NotAFile
    ∷ row (room < total (salvaged n t b).runs) ListTooShort
    ∷ []

-- its refusals: every field 0, and the list as it was
abbrev pub chain_rows : (n : ℕ) (t : Bytes) (b : ℕ) (list : List ℕ) → List (Row Followed)
chain_rows n t b list = giving (λ a. chain_gives a 0 unbroken list) (chain_tests n t b (length list))

-- Done: the blocks that were followed, in chain order, and why there are no more; later places stay
abbrev pub chain_done : (n : ℕ) (t : Bytes) (b : ℕ) (list : List ℕ) → Followed
chain_done n t b list =
    chain_gives Done (total (salvaged n t b).runs) (salvaged n t b).why (blocks_of (salvaged n t b).runs ++ drop (total (salvaged n t b).runs) list)

-- the rows of sizes and work list, as every call has them; soundness is not asked for
abbrev pub salvage_gate : {A : Type 0} (refuse : Answer → List ℕ → A) (t : Bytes) (work : List ℕ) → List (Row A)
salvage_gate refuse t work = gate refuse (Misfit t) (Outside t) (length work < blocks t) [] (blocks t) work

-- the promise of the call
abbrev pub ChainPromise : (t : Bytes) (work : List ℕ) (b : ℕ) (list : List ℕ) → Beside Followed → Type 0
ChainPromise t work b list =
    Promised (salvage_gate (λ a w. beside (chain_gives a 0 unbroken list) w) t work) (cleared (blocks t) work) (chain_rows (blocks t) t b list)
    (chain_done (blocks t) t b list)
