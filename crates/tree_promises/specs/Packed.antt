-- What the calls on open records promise over a packed list of them: the list of one table's records, with the number of records in it. Their own tests are
-- those over one record for each inode (Calls.antt), asked of the record that is listed, 0 where none is; but that open and make find a full list:
-- TooManyOpens, exactly where the inode is not listed and every place is taken. s are the four tables as they are lent, o the packed list, work the work list.
use Rattle.std.specs.Prelude.{List, [], ◌∷◌, ◌++◌, ℕ}
use Rattle.order.specs.First.{Row, row, First}
use Rattle.order.specs.Giving.{giving}
use Rattle.order.specs.Beside.{Beside, beside, Promised}
use Rattle.order.specs.Answer.{Answer}
use Rattle.order.specs.Answer.{Done, TooManyOpens}
use Rattle.tree_table.specs.View.{View}
use Rattle.tree_table.specs.Steps.{taken}
use Rattle.tree_test.specs.Gate.{packed_gate}
use Rattle.tree_sound.specs.Tables.{Tables}
use Rattle.tree_packed.specs.Opens.{Opens, record_of, NoPlace, with_record}
use Rattle.tree_opens.specs.Record.{writer_alone}
use Rattle.tree_opens.specs.Step.{more, less, more_tests}
use Rattle.tree_opens.specs.declared.Want.{Want}
use Rattle.tree_promises.specs.declared.Kind.{Kind}
use Rattle.tree_promises.specs.Kinds.{kind_view}
use Rattle.tree_promises.specs.Steps.{made, deleted, renamed}
use Rattle.tree_promises.specs.Promise.{worked}
use Rattle.tree_promises.specs.Calls as calls

-- what each of the five gives: the answer, the new inode of a make, the tables and the records afterwards
pub record Outcome : Type 0 where
  pub answer : Answer
  pub inode : ℕ
  pub tables : Tables
  pub opens : Opens

abbrev pub gives : (answer : Answer) (inode : ℕ) (tables : Tables) (opens : Opens) → Outcome
gives answer inode tables opens = record { answer = answer; inode = inode; tables = tables; opens = opens }

-- a refusal gives its number, and leaves tables and records as they are
abbrev pub refuse : (s : Tables) (o : Opens) (answer : Answer) → Outcome
refuse s o answer = gives answer 0 s o

-- a call with these tests, and with this outcome where none applies: once sizes, work list and soundness have passed; and whole, on all inputs
abbrev pub Inside : (s : Tables) (o : Opens) (tests : List (Row Answer)) (done : Outcome) → Outcome → Type 0
Inside s o tests done = First (giving (refuse s o) tests) done

unfoldable pub PackedPromise : (s : Tables) (o : Opens) (work : List ℕ) (tests : List (Row Answer)) (done : Outcome) → Beside Outcome → Type 0
PackedPromise s o work tests done =
    Promised (packed_gate (λ a w. beside (refuse s o a) w) s o work) (worked s work) (giving (refuse s o) tests) done

-- the tests, and what Done gives ----------------------------------------------------------------------------------------------------------------------

-- of the table v: a full list is judged with the limit, both are TooManyOpens
abbrev pub open_tests_in : (v : View) (o : Opens) (x : ℕ) (want : Want) → List (Row Answer)
open_tests_in v o x want = calls.live_tests v x ++ (row (NoPlace o x) TooManyOpens ∷ more_tests (record_of o x) want)

-- make looks for a place last
abbrev pub make_tests_in : (s : Tables) (v : View) (o : Opens) (p : ℕ) (name : List ℕ) → List (Row Answer)
make_tests_in s v o p name = calls.make_tests s v p name ++ (row (NoPlace o (taken v)) TooManyOpens ∷ [])

-- the records after an open, and after a close, which takes the record out where it gives back the last
abbrev pub opened : (o : Opens) (x : ℕ) (want : Want) → Opens
opened o x want = with_record o x (more (record_of o x) want)

abbrev pub closed : (o : Opens) (x : ℕ) (want : Want) → Opens
closed o x want = with_record o x (less (record_of o x) want)

module _ (kind : Kind) (s : Tables) (o : Opens) where
  abbrev pub open_tests : (x : ℕ) (want : Want) → List (Row Answer)
  open_tests x want = open_tests_in (kind_view kind s) o x want

  abbrev pub open_done : (x : ℕ) (want : Want) → Outcome
  open_done x want = gives Done 0 s (opened o x want)

  abbrev pub close_tests : (x : ℕ) (want : Want) → List (Row Answer)
  close_tests x want = calls.close_tests_of (kind_view kind s) (record_of o x) x want

  abbrev pub close_done : (x : ℕ) (want : Want) → Outcome
  close_done x want = gives Done 0 s (closed o x want)

  abbrev pub make_tests : (p : ℕ) (name : List ℕ) → List (Row Answer)
  make_tests p name = make_tests_in s (kind_view kind s) o p name

  abbrev pub make_done : (p : ℕ) (name bytes : List ℕ) → Outcome
  make_done p name bytes =
      gives Done (taken (kind_view kind s)) (made kind s p name bytes) (with_record o (taken (kind_view kind s)) writer_alone)

  abbrev pub rename_tests : (x p : ℕ) (name : List ℕ) → List (Row Answer)
  rename_tests x p name = calls.rename_tests_of kind s (record_of o x) x p name

  abbrev pub rename_done : (x p : ℕ) (name : List ℕ) → Outcome
  rename_done x p name = gives Done 0 (renamed kind s x p name) o

  -- delete takes the record out
  abbrev pub delete_tests : (x : ℕ) → List (Row Answer)
  delete_tests x = calls.delete_tests_of kind s (record_of o x) x

  abbrev pub delete_done : (x : ℕ) → Outcome
  delete_done x = gives Done 0 (deleted kind s x) (with_record o x 0)

  -- the calls, on all inputs ---------------------------------------------------------------------------------------------------------------------------

  abbrev pub PackedOpen : (work : List ℕ) (x : ℕ) (want : Want) → Beside Outcome → Type 0
  PackedOpen work x want = PackedPromise s o work (open_tests x want) (open_done x want)

  abbrev pub PackedClose : (work : List ℕ) (x : ℕ) (want : Want) → Beside Outcome → Type 0
  PackedClose work x want = PackedPromise s o work (close_tests x want) (close_done x want)

  abbrev pub PackedMake : (work : List ℕ) (p : ℕ) (name bytes : List ℕ) → Beside Outcome → Type 0
  PackedMake work p name bytes = PackedPromise s o work (make_tests p name) (make_done p name bytes)

  abbrev pub PackedRename : (work : List ℕ) (x p : ℕ) (name : List ℕ) → Beside Outcome → Type 0
  PackedRename work x p name = PackedPromise s o work (rename_tests x p name) (rename_done x p name)

  abbrev pub PackedDelete : (work : List ℕ) (x : ℕ) → Beside Outcome → Type 0
  PackedDelete work x = PackedPromise s o work (delete_tests x) (delete_done x)
