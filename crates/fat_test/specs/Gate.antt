-- The rows that the calls on a block table begin with: sizes, work list, soundness, in the order of RULES 2.2; and the row that those which change a table
-- or data have after soundness.
use Rattle.std.specs.Prelude.{◌≡◌, List, [], ◌∷◌, ◌++◌, ◌⊎◌, ℕ, ◌*◌, ◌<◌, length}
use Rattle.order.specs.First.{Row, row}
use Rattle.order.specs.Gate.{gate}
use Rattle.order.specs.Answer.{Answer}
use Rattle.order.specs.Answer.{BrokenFat, ReadOnlyVolume}
use Rattle.fat_node.specs.Entry.{Bytes}
use Rattle.fat_table.specs.Sound.{Sound}
use Rattle.fat_fault.specs.Fault.{fault_of}
use Rattle.fat_node.specs.Sizes.{blocks, Misfit, Outside}

-- the row of soundness: BrokenFat says where the table is broken (RULES 3.6)
abbrev pub unsound : (t : Bytes) → List (Row Answer)
unsound t = row (Sound t (blocks t) → ⊥) (BrokenFat (fault_of (blocks t) t)) ∷ []

-- the block lengths in use (RULES 1.2)
abbrev pub InUse : (l : ℕ) → Type 0
InUse l = (l ≡ 512) ⊎ (l ≡ 4096)

-- the row of a call that changes a table or data: a volume with another block length is read-only
abbrev pub retired : (l : ℕ) → List (Row Answer)
retired l = row (InUse l → ⊥) ReadOnlyVolume ∷ []

-- row 1 where data of d bytes are lent too, and row 2 where the block length l is passed; n x l is a number with no bound
abbrev pub Uneven : (t : Bytes) (d l : ℕ) → Type 0
Uneven t d l = Misfit t ⊎ (d ≡ blocks t * l → ⊥)

abbrev pub Unfit : (t : Bytes) (l : ℕ) → Type 0
Unfit t l = Outside t ⊎ (l < 1) ⊎ (65536 < l)

-- of the test, which takes the table alone; refuse a w is what the call gives with the answer a and the work list w
abbrev pub test_gate : {A : Type 0} (refuse : Answer → List ℕ → A) (t : Bytes) (work : List ℕ) → List (Row A)
test_gate refuse t work =
    gate refuse (Misfit t) (Outside t) (length work < blocks t) (unsound t) (blocks t) work

-- of every call that takes the block length: misfit is its row 1, more are the rows that it has after soundness. All of row 1 comes before any of row 2.
abbrev pub gate_with : {A : Type 0} (refuse : Answer → List ℕ → A) (misfit : Type 0) (t : Bytes) (l : ℕ) (more : List (Row Answer)) (work : List ℕ) → List (Row A)
gate_with refuse misfit t l more work =
    gate refuse misfit (Unfit t l) (length work < blocks t) (unsound t ++ more) (blocks t) work

-- of a call that takes data and changes neither them nor the table: open list, read
abbrev pub block_gate : {A : Type 0} (refuse : Answer → List ℕ → A) (t : Bytes) (d l : ℕ) (work : List ℕ) → List (Row A)
block_gate refuse t d l work = gate_with refuse (Uneven t d l) t l [] work

-- of a call that takes data and changes them or the table
abbrev pub change_gate : {A : Type 0} (refuse : Answer → List ℕ → A) (t : Bytes) (d l : ℕ) (work : List ℕ) → List (Row A)
change_gate refuse t d l work = gate_with refuse (Uneven t d l) t l (retired l) work

-- of a call that changes the table and takes no data: merge
abbrev pub table_gate : {A : Type 0} (refuse : Answer → List ℕ → A) (t : Bytes) (l : ℕ) (work : List ℕ) → List (Row A)
table_gate refuse t l work = gate_with refuse (Misfit t) t l (retired l) work
