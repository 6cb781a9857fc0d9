-- The public calls on the entry tables, as steps of a history.
use Rattle.std.specs.Prelude.{◌≡◌, List, ℕ}
use Rattle.order.specs.Beside.{Beside}
use Rattle.order.specs.Answer.{Answer}
use Rattle.order.specs.Answer.{Done}
use Rattle.tree_test.specs.Promise.{TestPromise}
use Rattle.tree_sound.specs.Tables.{Tables}
use Rattle.tree_opens.specs.declared.Want.{Want}
use Rattle.tree_promises.specs.Calls.{Lookup, Make, Change, Opening, Listing, Stat, Shown, Carry}
use Rattle.tree_promises.specs.Format.{FormatPromise}
use Rattle.tree_promises.specs.Public.{
  LookupPromise,
  ListPromise,
  StatPromise,
  CarriedPromise,
  SetCarriedPromise,
  MakePromise,
  RenamePromise,
  DeletePromise,
  OpenPromise,
  ClosePromise,
}
use Rattle.tree_promises.specs.Kinds.{kind_view}
use Rattle.tree_promises.specs.declared.Kind.{Kind}
use Rattle.tree_promises.specs.declared.Kind.TheVariants.{Directory, File}
use Rattle.tree.specs.Name.{NameAnswerPromise}
use Rattle.words.specs.Word.{AreBytes}
use Rattle.tree_history.specs.Whole.{Whole, SameSizes}

-- what the calls are lent from one to the next: the four tables, and the open records of the directories and of the files
pub record State : Type 0 where
  pub tables : Tables
  pub dir_opens : List ℕ
  pub file_opens : List ℕ

abbrev pub state : Tables → List ℕ → List ℕ → State
state tables dir_opens file_opens = record { tables = tables; dir_opens = dir_opens; file_opens = file_opens }

-- the open records of the kind's table; and the state with tables t and these open records of it
abbrev pub opens_of : (kind : Kind) (s : State) → List ℕ
opens_of Directory s = s.dir_opens
opens_of File s = s.file_opens

abbrev for_dirs : (kind : Kind) (opens old : List ℕ) → List ℕ
for_dirs Directory opens old = opens
for_dirs File opens old = old

abbrev for_files : (kind : Kind) (opens old : List ℕ) → List ℕ
for_files Directory opens old = old
for_files File opens old = opens

abbrev pub changed : (kind : Kind) (s : State) (t : Tables) (opens : List ℕ) → State
changed kind s t opens = state t (for_dirs kind opens s.dir_opens) (for_files kind opens s.file_opens)

-- a public call on the state s, with its answer and the state afterwards. It is the call's own promise, with its inputs and what it gave; there is no
-- second account of the calls. Work lists, answer lists, inodes and parents are any; the names and carried bytes that are written are bytes. The call that
-- shows a name answers no number: name_answer is the one beside it that does.
pub data Call (s : State) : Answer → State → Type 0 where
  format : (dm fm : ℕ) (o : Carry) → FormatPromise s.tables dm fm o → Call s o.answer (state o.tables s.dir_opens s.file_opens)
  test : (work : List ℕ) (o : Answer × List ℕ) → TestPromise s.tables work o → Call s o.0 s
  lookup : (kind : Kind) (work : List ℕ) (p : ℕ) (name : List ℕ) (o : Beside Lookup) → LookupPromise s.tables (kind_view kind s.tables) work p name o
      → Call s o.given.answer s
  list : (kind : Kind) (work : List ℕ) (x : ℕ) (list : List ℕ) (o : Beside Listing) → ListPromise s.tables (kind_view kind s.tables) work x list o
      → Call s o.given.answer s
  stat : (work : List ℕ) (o : Beside Stat) → StatPromise s.tables work o → Call s o.given.answer s
  name_answer : (work : List ℕ) (kind : Kind) (x : ℕ) (o : Beside Answer) → NameAnswerPromise s.tables work kind x o → Call s o.given s
  carried : (kind : Kind) (work : List ℕ) (x : ℕ) (o : Beside Shown) → CarriedPromise kind s.tables work x o → Call s o.given.answer s
  set_carried : (kind : Kind) (work : List ℕ) (x : ℕ) (bytes : List ℕ) (o : Beside Carry) → AreBytes bytes → SetCarriedPromise kind s.tables work x bytes o
      → Call s o.given.answer (state o.given.tables s.dir_opens s.file_opens)
  make : (kind : Kind) (work : List ℕ) (p : ℕ) (name bytes : List ℕ) (o : Beside Make) → AreBytes name → AreBytes bytes
      → MakePromise kind s.tables (opens_of kind s) work p name bytes o
      → Call s o.given.answer (changed kind s o.given.tables o.given.opens)
  rename : (kind : Kind) (work : List ℕ) (x p : ℕ) (name : List ℕ) (o : Beside Change) → AreBytes name
      → RenamePromise kind s.tables (opens_of kind s) work x p name o
      → Call s o.given.answer (changed kind s o.given.tables o.given.opens)
  delete : (kind : Kind) (work : List ℕ) (x : ℕ) (o : Beside Change) → DeletePromise kind s.tables (opens_of kind s) work x o
      → Call s o.given.answer (changed kind s o.given.tables o.given.opens)
  opening : (kind : Kind) (work : List ℕ) (x : ℕ) (want : Want) (o : Beside Opening) → OpenPromise kind s.tables (opens_of kind s) work x want o
      → Call s o.given.answer (changed kind s s.tables o.given.opens)
  closing : (kind : Kind) (work : List ℕ) (x : ℕ) (want : Want) (o : Beside Opening) → ClosePromise kind s.tables (opens_of kind s) work x want o
      → Call s o.given.answer (changed kind s s.tables o.given.opens)

-- the state u after a call on the state s with this answer: where the answer is Done, tables of bytes that are sound and as long as they were; else
-- tables and open records as they were
abbrev pub KeptBy : State → Answer → State → Type 0
KeptBy s answer u =
    (answer ≡ Done → Whole u.tables × SameSizes s.tables u.tables)
    × ((answer ≡ Done → ⊥) → u ≡ s)
