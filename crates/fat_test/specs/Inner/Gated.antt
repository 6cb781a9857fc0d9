-- What the gate of a call tells.
use Rattle.std.specs.Prelude.{◌≡◌, List, [], ℕ, Result, Ok, Err}
use Rattle.order.specs.First.{Row}
use Rattle.order.specs.Gate.{cleared, refusal}
use Rattle.order.specs.Given.{Given, None}
use Rattle.order.specs.Answer.{Answer}
use Rattle.order.specs.declared.Refusal.{Refusal}
use Rattle.order.specs.declared.Refusal.TheVariants.{BrokenFat}
use Rattle.fat_node.specs.declared.Counts.{Counts}
use Rattle.fat_node.specs.Entry.{Bytes}
use Rattle.fat_node.specs.Sizes.{blocks, Misfit}
use Rattle.fat_table.specs.Sound.{Sound}
use Rattle.fat_table.specs.Counts.{free_blocks, other_chains}
use Rattle.fat_fault.specs.Fault.{fault_of}
use Rattle.fat_test.specs.Gate.{Uneven, retired, gate_with}

-- what is told of a table of n blocks: it is sound, with its counts, or the row of soundness refuses it
abbrev pub Ruled : (t : Bytes) (n : ℕ) → Result Counts Refusal → Type 0
Ruled t n (Ok c) = Sound t n × (c.free ≡ free_blocks n t) × (c.files ≡ other_chains n t)
Ruled t n (Err why) = (Sound t n → ⊥) × (why ≡ BrokenFat (fault_of n t))

-- the gate of a call with block length l is open: no row applies, the table is sound, the work list is cleared, and the counts are the table's
pub record OpenedWith (misfit : Type 0) (t : Bytes) (l : ℕ) (more : List (Row Answer)) (work work' : List ℕ) (free files : ℕ) : Type 0 where
  pub none : None (gate_with refusal misfit t l more work)
  pub sound : Sound t (blocks t)
  pub clear : work' ≡ cleared (blocks t) work
  pub count : free ≡ free_blocks (blocks t) t
  pub others : files ≡ other_chains (blocks t) t

-- it is open, or the first row that applies refuses
abbrev pub GateWith : (misfit : Type 0) (t : Bytes) (l : ℕ) (more : List (Row Answer)) (work work' : List ℕ) → Result Counts Refusal → Type 0
GateWith misfit t l more work work' (Ok c) = OpenedWith misfit t l more work work' c.free c.files
GateWith misfit t l more work work' (Err why) = Given (gate_with refusal misfit t l more work) (refusal (Err why) work')

-- of a call with data of length d that changes nothing
abbrev pub Opened : (t : Bytes) (d l : ℕ) (work work' : List ℕ) (free files : ℕ) → Type 0
Opened t d l work work' free files = OpenedWith (Uneven t d l) t l [] work work' free files

abbrev pub GateOf : (t : Bytes) (d l : ℕ) (work work' : List ℕ) → Result Counts Refusal → Type 0
GateOf t d l work work' r = GateWith (Uneven t d l) t l [] work work' r

-- of one that changes the table or the data
abbrev pub ChangeGateOf : (t : Bytes) (d l : ℕ) (work work' : List ℕ) → Result Counts Refusal → Type 0
ChangeGateOf t d l work work' r = GateWith (Uneven t d l) t l (retired l) work work' r

-- of one that changes the table and is lent no data
abbrev pub TableGateOf : (t : Bytes) (l : ℕ) (work work' : List ℕ) → Result Counts Refusal → Type 0
TableGateOf t l work work' r = GateWith (Misfit t) t l (retired l) work work' r
