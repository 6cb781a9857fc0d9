-- What merge promises: the rows of the table's test, the block length among the sizes and as the last row, no row of its own, and what Done gives.
use Rattle.std.specs.Prelude.{List, [], ℕ}
use Rattle.order.specs.First.{First}
use Rattle.order.specs.Gate.{cleared}
use Rattle.order.specs.Beside.{Beside, beside, Promised}
use Rattle.order.specs.Answer.{Done}
use Rattle.fat_node.specs.Entry.{Bytes}
use Rattle.fat_node.specs.Sizes.{blocks}
use Rattle.fat_test.specs.Gate.{table_gate}
use Rattle.fat_promises.specs.Promise.{change_rows}
use Rattle.fat_promises.specs.Calls.{Change, change_gives}
use Rattle.fat_merge.specs.Merge.{merged}

-- Done: the free chain is the longest stretches of free blocks, rising
abbrev pub merge_done : (n : ℕ) (t : Bytes) → Change
merge_done n t = change_gives Done (merged n t)

-- what merge gives on a sound table, with blocks of l bytes
abbrev pub MergeSound : (n : ℕ) (t : Bytes) (l : ℕ) → Change → Type 0
MergeSound n t l o = First (change_rows (λ a. change_gives a t) l []) (merge_done n t) o

-- the promise of merge; a refusal leaves the table as it was
abbrev pub MergePromise : (t : Bytes) (l : ℕ) (work : List ℕ) → Beside Change → Type 0
MergePromise t l work o =
    Promised (table_gate (λ a w. beside (change_gives a t) w) t l work) (cleared (blocks t) work) [] (merge_done (blocks t) t) o
