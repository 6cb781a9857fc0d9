-- What the call that goes up from a directory promises.
use Rattle.std.specs.Prelude.{List, [], ◌∷◌, ◌++◌, ℕ, ◌/◌, ◌<◌, length, drop}
use Rattle.order.specs.First.{Row, row}
use Rattle.order.specs.Gate.{cleared}
use Rattle.order.specs.Giving.{giving}
use Rattle.order.specs.Beside.{Beside, beside, Promised}
use Rattle.order.specs.Answer.{Done, ListTooShort}
use Rattle.salvage_tree.specs.Calls.{Entered, entered_gives, entered_gate}
use Rattle.salvage_way.specs.Way.{way}

-- its refusal: the list can't hold the way; no count, and the list as it was
abbrev pub way_rows : (t : List ℕ) (x : ℕ) (list : List ℕ) → List (Row Entered)
way_rows t x list = giving (λ a. entered_gives a 0 list) (row (length list < length (way t x)) ListTooShort ∷ [])

-- Done: the directories from x up, x first; later places stay
abbrev pub way_done : (t : List ℕ) (x : ℕ) (list : List ℕ) → Entered
way_done t x list = entered_gives Done (length (way t x)) (way t x ++ drop (length (way t x)) list)

-- the promise of the call: the rows of sizes and work list are those of the call that lists the directories
abbrev pub WayPromise : (t work : List ℕ) (x : ℕ) (list : List ℕ) → Beside Entered → Type 0
WayPromise t work x list =
    Promised (entered_gate (λ a v. beside (entered_gives a 0 list) v) 40 t work) (cleared (length t / 40) work) (way_rows t x list) (way_done t x list)
