-- The rows that the calls on the entry tables begin with: sizes, work list, soundness, in the order of RULES 2.2. s are the four tables.
use Rattle.std.specs.Prelude.{List, [], ◌∷◌, ◌⊎◌, ℕ, ◌<◌, length}
use Rattle.order.specs.First.{Row, row}
use Rattle.order.specs.Gate.{gate}
use Rattle.order.specs.Answer.{Answer}
use Rattle.order.specs.Answer.{BrokenTree}
use Rattle.tree_sound.specs.Tables.{Tables, MisfitIn, OutsideIn, rooms_in, SoundIn}
use Rattle.tree_packed.specs.Opens.{Opens, InOrder}

-- the one gate of the tree calls: invalid and short are what rows 2 and 3 speak of; refuse a w is what the call gives with the answer a and the work list w
abbrev pub entry_gate : {A : Type 0} (refuse : Answer → List ℕ → A) (s : Tables) (invalid short : Type 0) (work : List ℕ) → List (Row A)
entry_gate refuse s invalid short work = gate refuse (MisfitIn s) invalid short (row (SoundIn s → ⊥) BrokenTree ∷ []) (rooms_in s) work

-- of a call that takes no open records
abbrev pub tree_gate : {A : Type 0} (refuse : Answer → List ℕ → A) (s : Tables) (work : List ℕ) → List (Row A)
tree_gate refuse s work = entry_gate refuse s (OutsideIn s) (length work < rooms_in s) work

-- of a call that takes a packed list of open records also: a list that is not in order is refused with the sizes, and row 3 is the work list alone
abbrev pub packed_gate : {A : Type 0} (refuse : Answer → List ℕ → A) (s : Tables) (o : Opens) (work : List ℕ) → List (Row A)
packed_gate refuse s o work = entry_gate refuse s (OutsideIn s ⊎ (InOrder o → ⊥)) (length work < rooms_in s) work

-- of a call said over one record for each inode: opens is the length of their list, room that of the table that they are for
abbrev pub open_gate : {A : Type 0} (refuse : Answer → List ℕ → A) (s : Tables) (opens room : ℕ) (work : List ℕ) → List (Row A)
open_gate refuse s opens room work = entry_gate refuse s (OutsideIn s) ((length work < rooms_in s) ⊎ (opens < room)) work
