-- The shape that the promises of all calls have: the rows that all begin with, then the call's own.
use Rattle.std.specs.Prelude.{List, [], ◌∷◌, ◌++◌, ℕ}
use Rattle.order.specs.First.{Row, row, First}

-- what a call gives, and the work list afterwards
pub record Beside (A : Type 0) : Type 0 where
  pub given : A
  pub work : List ℕ

abbrev pub beside : {A : Type 0} → A → List ℕ → Beside A
beside given work = record { given = given; work = work }

-- a call's own rows, beside the work list as it is once sizes, work list and soundness have passed
abbrev pub within : {A : Type 0} → List ℕ → List (Row A) → List (Row (Beside A))
within work [] = []
within work (r ∷ rs) = row r.when (beside r.gives work) ∷ within work rs

-- the whole promise: front are the rows of sizes, work list and soundness, work the work list once they have passed, own the call's own rows, done what
-- it gives where none applies
abbrev pub Promised : {A : Type 0} → List (Row (Beside A)) → List ℕ → List (Row A) → A → Beside A → Type 0
Promised front work own done o = First (front ++ within work own) (beside done work) o
