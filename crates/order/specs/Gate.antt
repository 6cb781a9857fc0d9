-- The rows that every call begins with: sizes, work list, soundness.
use Rattle.std.specs.Prelude.{List, [], ◌∷◌, ◌++◌, ℕ, drop, replicate}
use Rattle.order.specs.First.{Row, row}
use Rattle.order.specs.Answer.{Answer}
use Rattle.order.specs.Answer.{SizeMismatch, InvalidValue, WorkTooShort}

-- the work list after a call that came past sizes and work list: its first k places are 0, the others stay
abbrev pub cleared : ℕ → List ℕ → List ℕ
cleared k work = replicate k 0 ++ drop k work

-- rows that are judged once sizes and work list have passed, each by its answer alone: k places of the work list are then 0
abbrev pub later : {A : Type 0} → (Answer → List ℕ → A) → ℕ → List ℕ → List (Row Answer) → List (Row A)
later refuse k work [] = []
later refuse k work (r ∷ rs) = row r.when (refuse r.gives (cleared k work)) ∷ later refuse k work rs

-- refuse a w is what the call gives with the answer a and the work list w; after are the rows of soundness and what goes with it
abbrev pub gate : {A : Type 0} → (Answer → List ℕ → A) → (misfit invalid short : Type 0) → List (Row Answer) → ℕ → List ℕ → List (Row A)
gate refuse misfit invalid short after k work =
    row misfit (refuse SizeMismatch work)
    ∷ row invalid (refuse InvalidValue work)
    ∷ row short (refuse WorkTooShort work)
    ∷ later refuse k work after

-- a refusal by itself: the answer, and the work list afterwards
pub record Refusal : Type 0 where
  pub answer : Answer
  pub work : List ℕ

abbrev pub refusal : Answer → List ℕ → Refusal
refusal answer work = record { answer = answer; work = work }
