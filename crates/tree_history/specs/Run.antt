-- A history of the entry tables: public calls one after the other, whatever each answers.
use Rattle.order.specs.Answer.{Answer}
use Rattle.tree_history.specs.Call.{State, Call}

-- from the state s by calls to a state
pub data Run (s : State) : State → Type 0 where
  none : Run s s
  calls : (t u : State) (answer : Answer) → Run s t → Call t answer u → Run s u
