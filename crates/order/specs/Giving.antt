-- Tests: rows that say the answer alone, for calls whose refusals change nothing.
use Rattle.std.specs.Prelude.{List, [], ◌∷◌}
use Rattle.order.specs.First.{Row, row}
use Rattle.order.specs.Answer.{Answer}

-- the rows of a call that gives g a with the answer a
abbrev pub giving : {A : Type 0} → (Answer → A) → List (Row Answer) → List (Row A)
giving g [] = []
giving g (r ∷ rs) = row r.when (g r.gives) ∷ giving g rs
