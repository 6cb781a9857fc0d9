-- Runs of the calls over the packed lists, and over one record for each inode.
use Rattle.std.specs.Prelude.{◌≡◌, List, [], ◌∷◌, ℕ, ◌≤◌, length}
use Rattle.order.specs.Beside.{Beside}
use Rattle.order.specs.Answer.{Answer}
use Rattle.order.specs.Answer.{TooManyOpens}
use Rattle.words.specs.Word.{AreBytes}
use Rattle.tree_table.specs.Steps.{taken}
use Rattle.tree_sound.specs.Tables.{Tables}
use Rattle.tree_opens.specs.Opens.{opened}
use Rattle.tree_opens.specs.declared.Want.{Want}
use Rattle.tree_promises.specs.declared.Kind.{Kind}
use Rattle.tree_promises.specs.declared.Kind.TheVariants.{Directory, File}
use Rattle.tree_promises.specs.Kinds.{kind_view}
use Rattle.tree_history.specs.Call as dense
use Rattle.tree_packed.specs.Opens.{Opens, NoPlace}
use Rattle.tree_same.specs.Alike.{Alike}
use Rattle.tree_same.specs.Asked as asked
use Rattle.tree_same.specs.Asked.{Asked, Asking}
use Rattle.tree_promises.specs.Packed.{Outcome, PackedOpen, PackedClose, PackedMake, PackedRename, PackedDelete}

-- what the calls are lent from one to the next
pub record State : Type 0 where
  pub tables : Tables
  pub dir_opens : Opens
  pub file_opens : Opens

abbrev pub state : Tables → Opens → Opens → State
state tables dir_opens file_opens = record { tables = tables; dir_opens = dir_opens; file_opens = file_opens }

abbrev pub opens_of : (kind : Kind) (s : State) → Opens
opens_of Directory s = s.dir_opens
opens_of File s = s.file_opens

abbrev pub changed : (kind : Kind) (s : State) (t : Tables) (o : Opens) → State
changed Directory s t o = state t o s.file_opens
changed File s t o = state t s.dir_opens o

-- a call on the state s, with its answer and the state afterwards: one on open records, or one that takes none of them, which does the same whatever they are
pub data Call (s : State) : Answer → State → Type 0 where
  opening : (kind : Kind) (work : List ℕ) (x : ℕ) (want : Want) (o : Beside Outcome)
      → PackedOpen kind s.tables (opens_of kind s) work x want o
      → Call s o.given.answer (changed kind s o.given.tables o.given.opens)
  closing : (kind : Kind) (work : List ℕ) (x : ℕ) (want : Want) (o : Beside Outcome)
      → PackedClose kind s.tables (opens_of kind s) work x want o
      → Call s o.given.answer (changed kind s o.given.tables o.given.opens)
  make : (kind : Kind) (work : List ℕ) (p : ℕ) (name bytes : List ℕ) (o : Beside Outcome) → AreBytes name → AreBytes bytes
      → PackedMake kind s.tables (opens_of kind s) work p name bytes o
      → Call s o.given.answer (changed kind s o.given.tables o.given.opens)
  rename : (kind : Kind) (work : List ℕ) (x p : ℕ) (name : List ℕ) (o : Beside Outcome) → AreBytes name
      → PackedRename kind s.tables (opens_of kind s) work x p name o
      → Call s o.given.answer (changed kind s o.given.tables o.given.opens)
  delete : (kind : Kind) (work : List ℕ) (x : ℕ) (o : Beside Outcome)
      → PackedDelete kind s.tables (opens_of kind s) work x o
      → Call s o.given.answer (changed kind s o.given.tables o.given.opens)
  other : (t : Tables) (a : Answer) (q : Asked) → ((d f : List ℕ) → Asking q (dense.state s.tables d f) a (dense.state t d f))
      → Call s a (state t s.dir_opens s.file_opens)

-- what it was asked
abbrev pub asked_in : {s u : State} {a : Answer} → Call s a u → Asked
asked_in (opening kind work x want o p) = asked.opening kind work x want
asked_in (closing kind work x want o p) = asked.closing kind work x want
asked_in (make kind work p name bytes o bn bb q) = asked.make kind work p name bytes
asked_in (rename kind work x p name o b q) = asked.rename kind work x p name
asked_in (delete kind work x o p) = asked.delete kind work x
asked_in (other t a q c) = q

-- the call was refused for a full list
abbrev pub FullFor : {s u : State} {a : Answer} → Call s a u → Type 0
FullFor {s} (opening kind work x want o p) = (o.given.answer ≡ TooManyOpens) × NoPlace (opens_of kind s) x
FullFor {s} (make kind work p name bytes o bn bb q) = (o.given.answer ≡ TooManyOpens) × NoPlace (opens_of kind s) (taken (kind_view kind s.tables))
FullFor (closing kind work x want o p) = ⊥
FullFor (rename kind work x p name o b q) = ⊥
FullFor (delete kind work x o p) = ⊥
FullFor (other t a q c) = ⊥

-- calls one after the other, none refused for a full list: what they were asked and their answers, the last first, and the state afterwards
pub data Run (s : State) : List Asked → List Answer → State → Type 0 where
  none : Run s [] [] s
  next : (calls : List Asked) (done : List Answer) (t u : State) (a : Answer) → Run s calls done t → (c : Call t a u) → (FullFor c → ⊥)
      → Run s (asked_in c ∷ calls) (a ∷ done) u

-- any calls one after the other, those refused for a full list among them
pub data AnyRun (s : State) : State → Type 0 where
  none : AnyRun s s
  next : (t u : State) (a : Answer) → AnyRun s t → Call t a u → AnyRun s u

-- the same over one record for each inode
pub data DenseRun (s : dense.State) : List Asked → List Answer → dense.State → Type 0 where
  none : DenseRun s [] [] s
  next : (calls : List Asked) (done : List Answer) (t u : dense.State) (q : Asked) (a : Answer) → DenseRun s calls done t → Asking q t a u
      → DenseRun s (q ∷ calls) (a ∷ done) u

-- both sides have the same tables and the same records
pub record Same (s : State) (t : dense.State) : Type 0 where
  pub tables : t.tables ≡ s.tables
  pub dirs : Alike t.dir_opens s.dir_opens
  pub files : Alike t.file_opens s.file_opens

-- nothing is open on either side, and on the other each inode that a table has room for has a place
pub record NoneOpen (s : State) (t : dense.State) : Type 0 where
  pub tables : t.tables ≡ s.tables
  pub no_dirs : s.dir_opens.count ≡ 0
  pub no_files : s.file_opens.count ≡ 0
  pub dir_places : 65536 ≤ length t.dir_opens
  pub file_places : 65536 ≤ length t.file_opens
  pub dirs : (x : ℕ) → opened t.dir_opens x ≡ 0
  pub files : (x : ℕ) → opened t.file_opens x ≡ 0
