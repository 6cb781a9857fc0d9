-- What the export of the name promises: its answer is the place of the name in the table that the kind selects, 0 for the directories and 1 for the
-- files.
use Rattle.std.specs.Prelude.{List, [], ◌∷◌, ◌⊎◌, ℕ, zero, suc, ◌+◌, ◌*◌, ◌<◌, length}
use Rattle.order.specs.First.{Row, row}
use Rattle.order.specs.Beside.{Beside, beside, Promised}
use Rattle.order.specs.Answer.{Answer, Done, NotFound}
use Rattle.tree_table.specs.View.{View, LiveIn}
use Rattle.tree_test.specs.Gate.{entry_gate}
use Rattle.tree_sound.specs.Tables.{Tables, dirs, files, OutsideIn, rooms_in}
use Rattle.tree_promises.specs.Promise.{worked}

-- the answer, and where the sixteen name bytes begin
pub record Naming : Type 0 where
  pub answer : Answer
  pub offset : ℕ

abbrev pub named_gives : Answer → ℕ → Naming
named_gives answer offset = record { answer = answer; offset = offset }

-- the table of a kind, and the width of its entries
abbrev pub kind_view : ℕ → Tables → View
kind_view zero s = dirs s
kind_view (suc k) s = files s

abbrev pub kind_width : ℕ → ℕ
kind_width zero = 40
kind_width (suc k) = 48

-- the call's own row, and what Done gives: the name stands behind the parent's four bytes
abbrev pub name_rows : Tables → ℕ → ℕ → List (Row Naming)
name_rows s kind x = row (LiveIn (kind_view kind s) x → ⊥) (named_gives NotFound 0) ∷ []

abbrev pub name_done : ℕ → ℕ → Naming
name_done kind x = named_gives Done (x * kind_width kind + 4)

-- on all inputs; another kind is InvalidValue, as a size that is out of bounds
abbrev pub NamePromise : Tables → List ℕ → ℕ → ℕ → Beside Naming → Type 0
NamePromise s work kind x o =
    Promised
    (entry_gate
    (λ a w. beside (named_gives a 0) w)
    s
    (OutsideIn s ⊎ (1 < kind))
    (length work < rooms_in s)
    work)
    (worked s work)
    (name_rows s kind x)
    (name_done kind x)
    o
