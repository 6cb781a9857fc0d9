-- What the call that follows some chains promises.
use Rattle.std.specs.Prelude.{List, [], ◌∷◌, ◌++◌, ℕ, ◌*◌, ◌<◌, length, drop}
use Rattle.order.specs.First.{Row, row}
use Rattle.order.specs.Gate.{cleared}
use Rattle.order.specs.Giving.{giving}
use Rattle.order.specs.Beside.{Beside, beside, Promised}
use Rattle.order.specs.Answer.{Answer}
use Rattle.order.specs.Answer.{Done, ListTooShort}
use Rattle.fat_node.specs.Entry.{Bytes}
use Rattle.fat_node.specs.Sizes.{blocks}
use Rattle.salvage_shared.specs.Calls.{shared_gate}
use Rattle.salvage_chains.specs.Chains.{chains, many, ends_of, followed}

-- the answer, the number of blocks, the list of ends and the list of blocks afterwards
pub record Chained : Type 0 where
  pub answer : Answer
  pub count : ℕ
  pub ends : List ℕ
  pub list : List ℕ

-- the same, by its parts
abbrev pub chained_gives : (answer : Answer) (count : ℕ) (ends list : List ℕ) → Chained
chained_gives answer count e list = record { answer = answer; count = count; ends = e; list = list }

-- its refusals: there are not three places for each first block, or the list can't hold the blocks; no count, and both lists as they were
abbrev pub chained_rows : (n : ℕ) (t : Bytes) (firsts e list : List ℕ) → List (Row Chained)
chained_rows n t firsts e list =
    giving (λ a. chained_gives a 0 e list)
    (row (length e < 3 * length firsts) ListTooShort ∷ row (length list < many (chains n t firsts)) ListTooShort ∷ [])

-- Done: what is told of each, and the blocks of all, in the order of the first blocks; later places stay
abbrev pub chained_done : (n : ℕ) (t : Bytes) (firsts e list : List ℕ) → Chained
chained_done n t firsts e list =
    chained_gives Done (many (chains n t firsts)) (ends_of (chains n t firsts) ++ drop (3 * length firsts) e)
    (followed (chains n t firsts) ++ drop (many (chains n t firsts)) list)

-- the promise of the call: the rows of sizes and work list are those of the call that tells which chains share a block
abbrev pub ChainsPromise : (t : Bytes) (work firsts e list : List ℕ) → Beside Chained → Type 0
ChainsPromise t work firsts e list =
    Promised (shared_gate (λ a w. beside (chained_gives a 0 e list) w) t work firsts) (cleared (blocks t) work) (chained_rows (blocks t) t firsts e list)
    (chained_done (blocks t) t firsts e list)
