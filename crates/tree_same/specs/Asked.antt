-- What a call is asked, and that a call over one record for each inode is asked just that.
use Rattle.std.specs.Prelude.{◌≡◌, List, ℕ}
use Rattle.order.specs.Answer.{Answer}
use Rattle.tree_opens.specs.declared.Want.{Want}
use Rattle.tree_promises.specs.declared.Kind.{Kind}
use Rattle.tree_history.specs.Call as dense

-- which call it is and what it is passed, but for the tables and the open records
pub data Asked : Type 0 where
  format : (dm fm : ℕ) → Asked
  test : (work : List ℕ) → Asked
  lookup : (kind : Kind) (work : List ℕ) (p : ℕ) (name : List ℕ) → Asked
  list : (kind : Kind) (work : List ℕ) (x : ℕ) (list : List ℕ) → Asked
  stat : (work : List ℕ) → Asked
  name_answer : (work : List ℕ) (kind : Kind) (x : ℕ) → Asked
  carried : (kind : Kind) (work : List ℕ) (x : ℕ) → Asked
  set_carried : (kind : Kind) (work : List ℕ) (x : ℕ) (bytes : List ℕ) → Asked
  make : (kind : Kind) (work : List ℕ) (p : ℕ) (name bytes : List ℕ) → Asked
  rename : (kind : Kind) (work : List ℕ) (x p : ℕ) (name : List ℕ) → Asked
  delete : (kind : Kind) (work : List ℕ) (x : ℕ) → Asked
  opening : (kind : Kind) (work : List ℕ) (x : ℕ) (want : Want) → Asked
  closing : (kind : Kind) (work : List ℕ) (x : ℕ) (want : Want) → Asked

-- what a call over one record for each inode was asked
abbrev pub asked_of : {s u : dense.State} {a : Answer} → dense.Call s a u → Asked
asked_of (dense.format dm fm o p) = format dm fm
asked_of (dense.test work o p) = test work
asked_of (dense.lookup kind work x name o p) = lookup kind work x name
asked_of (dense.list kind work x l o p) = list kind work x l
asked_of (dense.stat work o p) = stat work
asked_of (dense.name_answer work kind x o p) = name_answer work kind x
asked_of (dense.carried kind work x o p) = carried kind work x
asked_of (dense.set_carried kind work x bytes o b p) = set_carried kind work x bytes
asked_of (dense.make kind work p name bytes o bn bb q) = make kind work p name bytes
asked_of (dense.rename kind work x p name o b q) = rename kind work x p name
asked_of (dense.delete kind work x o p) = delete kind work x
asked_of (dense.opening kind work x want o p) = opening kind work x want
asked_of (dense.closing kind work x want o p) = closing kind work x want

-- a call that was asked q
pub record Asking (q : Asked) (s : dense.State) (a : Answer) (u : dense.State) : Type 0 where
  pub call : dense.Call s a u
  pub asks : asked_of call ≡ q
