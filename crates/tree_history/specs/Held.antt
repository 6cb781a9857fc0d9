-- Who holds what, over a history: the opens that calls gave and that were not given back.
use Rattle.std.specs.Prelude.{◌≡◌, Bool, true, false, ◌&&◌, ℕ, zero, suc, ◌+◌, ◌-◌, eqb}
use Rattle.order.specs.Answer.{number_of}
use Rattle.order.specs.Answer.{Answer}
use Rattle.order.specs.Answer.{Done, Busy, NotOpen}
use Rattle.links.specs.Change.{pick}
use Rattle.tree_table.specs.View.{LiveIn}
use Rattle.tree_opens.specs.Opens.{opened}
use Rattle.tree_opens.specs.declared.Want.{Want}
use Rattle.tree_opens.specs.declared.Want.TheVariants.{Reader, Writer}
use Rattle.tree_promises.specs.declared.Kind.{Kind}
use Rattle.tree_promises.specs.declared.Kind.TheVariants.{Directory, File}
use Rattle.tree_promises.specs.Kinds.{kind_view}
use Rattle.tree_history.specs.Call as step
use Rattle.tree_history.specs.Call.{State, Call, opens_of}
use Rattle.tree_history.specs.Run.{Run, none, calls}

-- nothing is open
abbrev pub NoneOpen : State → Type 0
NoneOpen s = (kind : Kind) (x : ℕ) → opened (opens_of kind s) x ≡ 0

-- what a call did to the opens of one inode: nothing; one of the kind more, or less; the writer's alone, where it was made; none, where it was deleted
pub data Move : Type 0 where
  stays : Move
  gains : Want → Move
  loses : Want → Move
  made : Move
  gone : Move

-- inode y of one kind is inode x of another
abbrev pub same_entry : (kind k : Kind) (x y : ℕ) → Bool
same_entry Directory Directory x y = eqb x y
same_entry Directory File x y = false
same_entry File Directory x y = false
same_entry File File x y = eqb x y

-- the move of a call, where it is about this inode and its number is 0, Done
abbrev pub seen : (here : Bool) (number : ℕ) → Move → Move
seen true zero m = m
seen true (suc n) m = stays
seen false n m = stays

abbrev pub move_of : (kind : Kind) (x : ℕ) {s u : State} {a : Answer} → Call s a u → Move
move_of kind x (step.make k work p name bytes o bn bb q) = seen (same_entry kind k x o.given.inode) (number_of o.given.answer) made
move_of kind x (step.delete k work y o q) = seen (same_entry kind k x y) (number_of o.given.answer) gone
move_of kind x (step.opening k work y want o q) = seen (same_entry kind k x y) (number_of o.given.answer) (gains want)
move_of kind x (step.closing k work y want o q) = seen (same_entry kind k x y) (number_of o.given.answer) (loses want)
move_of kind x (step.format dm fm o q) = stays
move_of kind x (step.test work o q) = stays
move_of kind x (step.lookup k work p name o q) = stays
move_of kind x (step.list k work y list o q) = stays
move_of kind x (step.stat work o q) = stays
move_of kind x (step.name_answer work k y o q) = stays
move_of kind x (step.carried k work y o q) = stays
move_of kind x (step.set_carried k work y bytes o b q) = stays
move_of kind x (step.rename k work y p name o b q) = stays

-- how many opens of a kind are out after a move, where n were out
abbrev pub counted : Move → (want : Want) (n : ℕ) → ℕ
counted stays want n = n
counted (gains Reader) Reader n = n + 1
counted (gains Reader) Writer n = n
counted (gains Writer) Reader n = n
counted (gains Writer) Writer n = n + 1
counted (loses Reader) Reader n = n - 1
counted (loses Reader) Writer n = n
counted (loses Writer) Reader n = n
counted (loses Writer) Writer n = n - 1
counted made Reader n = 0
counted made Writer n = 1
counted gone want n = 0

-- how many opens of inode x the calls of a history gave, for readers or for the writer, that were not given back
abbrev pub out : {s t : State} → Run s t → (kind : Kind) (x : ℕ) (want : Want) → ℕ
out none kind x want = 0
out (calls t u a r c) kind x want = counted (move_of kind x c) want (out r kind x want)

-- whatever has an open is live
abbrev pub HeldLive : State → Type 0
HeldLive s = (kind : Kind) (x : ℕ) → (opened (opens_of kind s) x ≡ 0 → ⊥) → LiveIn (kind_view kind s.tables) x

-- no call of a history is a format, which takes the entries and leaves the records
abbrev pub NoFormat : {s u : State} {a : Answer} → Call s a u → Type 0
NoFormat (step.format dm fm o q) = ⊥
NoFormat (step.make k work p name bytes o bn bb q) = Unit {0}
NoFormat (step.delete k work y o q) = Unit {0}
NoFormat (step.opening k work y want o q) = Unit {0}
NoFormat (step.closing k work y want o q) = Unit {0}
NoFormat (step.test work o q) = Unit {0}
NoFormat (step.lookup k work p name o q) = Unit {0}
NoFormat (step.list k work y list o q) = Unit {0}
NoFormat (step.stat work o q) = Unit {0}
NoFormat (step.name_answer work k y o q) = Unit {0}
NoFormat (step.carried k work y o q) = Unit {0}
NoFormat (step.set_carried k work y bytes o b q) = Unit {0}
NoFormat (step.rename k work y p name o b q) = Unit {0}

abbrev pub Unformatted : {s t : State} → Run s t → Type 0
Unformatted none = Unit {0}
Unformatted (calls t u a r c) = Unformatted r × NoFormat c

-- what a rename that else may go answers of an entry that its writer holds, beside so many readers
abbrev pub held_rename : (readers : ℕ) → Answer
held_rename n = Done

-- what a delete that else may go answers of an entry that so many writers and readers hold
abbrev pub held_delete : (writer readers : ℕ) → Answer
held_delete w n = pick (eqb w 0) NotOpen (pick (eqb n 0) Done Busy)
