-- What retrace promises: the rows of the table's test, one more for the list, and what Done gives.
use Rattle.std.specs.Prelude.{List, [], ◌∷◌, ℕ, ◌*◌, ◌<◌, length}
use Rattle.std.proofs.lemmas.List.Edits.{sets}
use Rattle.order.specs.First.{Row, row}
use Rattle.order.specs.Gate.{cleared}
use Rattle.order.specs.Beside.{Beside, beside, Promised}
use Rattle.order.specs.Answer.{Answer}
use Rattle.order.specs.Answer.{Done, ListTooShort}
use Rattle.fat_node.specs.Entry.{Bytes}
use Rattle.fat_node.specs.Sizes.{blocks}
use Rattle.fat_test.specs.Gate.{test_gate}
use Rattle.fat_retrace.specs.History.{history, encoded}

-- the answer, the number of calls, the lent list afterwards
pub record Retrace : Type 0 where
  pub answer : Answer
  pub calls : ℕ
  pub list : List ℕ

abbrev pub retrace_gives : Answer → ℕ → List ℕ → Retrace
retrace_gives answer calls list = record { answer = answer; calls = calls; list = list }

-- the list has fewer than five places a block
abbrev pub retrace_rows : ℕ → List ℕ → List (Row Retrace)
retrace_rows n list = row (length list < 5 * n) (retrace_gives ListTooShort 0 list) ∷ []

-- the history stands at the front of the list; the later places stay
abbrev pub retrace_done : ℕ → Bytes → List ℕ → Retrace
retrace_done n t list = retrace_gives Done (length (history n t)) (sets list 0 (encoded (history n t)))

abbrev pub RetracePromise : Bytes → List ℕ → List ℕ → Beside Retrace → Type 0
RetracePromise t work list o =
    Promised (test_gate (λ a w. beside (retrace_gives a 0 list) w) t work) (cleared (blocks t) work) (retrace_rows (blocks t) list) (retrace_done (blocks t) t list) o
