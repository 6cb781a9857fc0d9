-- What format promises.
use Rattle.std.specs.Prelude.{ℕ, List, [], ◌∷◌}
use Rattle.order.specs.First.{Row, row, First}
use Rattle.order.specs.Answer.{Answer}
use Rattle.order.specs.Answer.{Done, SizeMismatch, InvalidValue}
use Rattle.fat_node.specs.Entry.{Bytes}
use Rattle.fat_node.specs.Node.{run, set_node, set_head}
use Rattle.fat_node.specs.Sizes.{blocks, Misfit, Outside}

-- the table of n blocks with one free node of them all; the entries between its second and its last stay as they were
unfoldable pub formatted : (n : ℕ) (t : Bytes) → Bytes
formatted n t = set_head (set_node t (run 0 n) 0 0) 1

-- format gives its answer, and the table afterwards
abbrev pub format_gives : (answer : Answer) (table : Bytes) → Answer × Bytes
format_gives answer table = (answer, table)

-- its rows, in the order of RULES 2.2: the table stays
abbrev pub format_rows : (t : Bytes) → List (Row (Answer × Bytes))
format_rows t = row (Misfit t) (format_gives SizeMismatch t) ∷ row (Outside t) (format_gives InvalidValue t) ∷ []

-- Done: one free node
abbrev pub format_done : (t : Bytes) → Answer × Bytes
format_done t = format_gives Done (formatted (blocks t) t)

-- the promise of format: the table before, the answer, the table after
abbrev pub FormatPromise : (t : Bytes) (r : Answer) (table : Bytes) → Type 0
FormatPromise t r table = First (format_rows t) (format_done t) (r, table)
