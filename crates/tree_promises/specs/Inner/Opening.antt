-- Open and close over a packed list of records, of one table v by itself: the tests and what Done gives are those of Packed.antt.
use Rattle.std.specs.Prelude.{ℕ}
use Rattle.order.specs.First.{First}
use Rattle.order.specs.Giving.{giving}
use Rattle.order.specs.Answer.{Answer}
use Rattle.order.specs.Answer.{Done}
use Rattle.tree_table.specs.View.{View}
use Rattle.tree_packed.specs.Opens.{Opens, record_of}
use Rattle.tree_opens.specs.declared.Want.{Want}
use Rattle.tree_promises.specs.Calls.{close_tests_of}
use Rattle.tree_promises.specs.Packed.{open_tests_in, opened, closed}

-- the answer, and the records afterwards
pub record OpeningIn : Type 0 where
  pub answer : Answer
  pub opens : Opens

abbrev pub opening_in : (answer : Answer) (opens : Opens) → OpeningIn
opening_in answer opens = record { answer = answer; opens = opens }

unfoldable pub OpenIn : (v : View) (o : Opens) (x : ℕ) (want : Want) → OpeningIn → Type 0
OpenIn v o x want = First (giving (λ a. opening_in a o) (open_tests_in v o x want)) (opening_in Done (opened o x want))

unfoldable pub CloseIn : (v : View) (o : Opens) (x : ℕ) (want : Want) → OpeningIn → Type 0
CloseIn v o x want = First (giving (λ a. opening_in a o) (close_tests_of v (record_of o x) x want)) (opening_in Done (closed o x want))
