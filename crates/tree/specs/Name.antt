-- What the calls on a name promise. A kind selects the table.
use Rattle.std.specs.Prelude.{List, [], ℕ}
use Rattle.order.specs.First.{Row}
use Rattle.order.specs.Giving.{giving}
use Rattle.order.specs.Beside.{Beside}
use Rattle.order.specs.Answer.{Answer}
use Rattle.order.specs.Answer.{Done}
use Rattle.tree_sound.specs.Tables.{Tables}
use Rattle.tree_promises.specs.Kinds.{width, kind_table, kind_view}
use Rattle.tree_promises.specs.Calls.{live_tests, part}
use Rattle.tree_promises.specs.Promise.{TreePromise}
use Rattle.tree_promises.specs.declared.Kind.{Kind}

-- the sixteen name bytes of entry x, a part of that table
abbrev pub kind_name : (kind : Kind) (s : Tables) (x : ℕ) → List ℕ
kind_name kind s x = part (width kind) (kind_table kind s) x 4 16

-- both calls' rows: the entry is live
abbrev pub name_tests : (kind : Kind) (s : Tables) (x : ℕ) → List (Row Answer)
name_tests kind s x = live_tests (kind_view kind s) x

-- the number alone
abbrev pub NameAnswerPromise : (s : Tables) (work : List ℕ) (kind : Kind) (x : ℕ) → Beside Answer → Type 0
NameAnswerPromise s work kind x o = TreePromise (λ a. a) s work (giving (λ a. a) (name_tests kind s x)) Done o

-- the name; a refusal shows an empty part
abbrev pub NamePromise : (s : Tables) (work : List ℕ) (kind : Kind) (x : ℕ) → Beside (List ℕ) → Type 0
NamePromise s work kind x o = TreePromise (λ a. []) s work (giving (λ a. []) (name_tests kind s x)) (kind_name kind s x) o
