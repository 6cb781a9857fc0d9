-- What the tests before a step decide.
use Rattle.std.specs.Prelude.{Ok, Err, List}
use Rattle.order.specs.First.{Row}
use Rattle.order.specs.Given.{Given, None}
use Rattle.order.specs.Answer.{Answer}

-- no row applies, or the first that applies gives the answer
abbrev pub JudgedBy : List (Row Answer) → Answer → Type 0
JudgedBy rows (Ok done) = None rows
JudgedBy rows (Err why) = Given rows (Err why)
