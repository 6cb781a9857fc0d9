-- The rows that a call on both layers begins with: sizes of both, work list, the block table's soundness, then the entry tables'. t is the block table, d
-- the length of the data, l the block length, s the four entry tables.
use Rattle.std.specs.Prelude.{◌≡◌, Result, Ok, Err, List, [], ◌∷◌, ◌++◌, ◌⊎◌, ℕ, ◌+◌, ◌*◌, ◌<◌, length}
use Rattle.order.specs.First.{Row, row}
use Rattle.order.specs.Gate.{gate, cleared, refusal}
use Rattle.order.specs.Given.{Given, None}
use Rattle.order.specs.Answer.{Answer}
use Rattle.order.specs.Answer.{BrokenTree}
use Rattle.fat_node.specs.Entry.{Bytes}
use Rattle.fat_node.specs.Sizes as block
use Rattle.fat_table.specs.Sound as block-table
use Rattle.fat_test.specs.Gate.{unsound}
pub use Rattle.fat_test.specs.Gate.{Uneven, Unfit}
use Rattle.tree_sound.specs.Tables.{Tables, MisfitIn, OutsideIn, rooms_in, SoundIn}

-- the places of the work list that such a call names: one a block, and one for each entry of the two tables
abbrev pub places : (t : Bytes) (s : Tables) → ℕ
places t s = block.blocks t + rooms_in s

-- soundness: 4, then 9
abbrev pub broken_rows : (t : Bytes) (s : Tables) → List (Row Answer)
broken_rows t s = unsound t ++ (row (SoundIn s → ⊥) BrokenTree ∷ [])

-- the gate, whose rows 1 and 2 speak of both layers; refuse a w is what the call gives with the answer a and the work list w
abbrev pub volume_gate : {A : Type 0} (refuse : Answer → List ℕ → A) (t : Bytes) (d l : ℕ) (s : Tables) (work : List ℕ) → List (Row A)
volume_gate refuse t d l s work =
    gate refuse (Uneven t d l ⊎ MisfitIn s) (Unfit t l ⊎ OutsideIn s) (length work < places t s) (broken_rows t s) (places t s) work

-- the gate is open: no row applies, both layers are sound, and the work list is cleared
pub record Opened (t : Bytes) (d l : ℕ) (s : Tables) (work work' : List ℕ) : Type 0 where
  pub none : None (volume_gate refusal t d l s work)
  pub blocks : block-table.Sound t (block.blocks t)
  pub tree : SoundIn s
  pub clear : work' ≡ cleared (places t s) work

-- it is open, or the first row that applies refuses
unfoldable pub VolumeGateOf : (t : Bytes) (d l : ℕ) (s : Tables) (work work' : List ℕ) → Answer → Type 0
VolumeGateOf t d l s work work' (Ok told) = Opened t d l s work work'
VolumeGateOf t d l s work work' (Err why) = Given (volume_gate refusal t d l s work) (refusal (Err why) work')
