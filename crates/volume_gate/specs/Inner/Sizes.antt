-- Which row of sizes applies, and what soundness says once they have passed.
use Rattle.std.specs.Prelude.{◌≡◌, ◌≢◌, ◌⊎◌, List, [], ◌∷◌, Ok, Err, ℕ}
use Rattle.order.specs.Given.{Given, None}
use Rattle.order.specs.First.{Row, row}
use Rattle.order.specs.Answer.{Answer, SizeMismatch, InvalidValue}
use Rattle.fat_node.specs.Entry.{Bytes}
use Rattle.fat_node.specs.Sizes as block
use Rattle.fat_table.specs.Sound as block-table
use Rattle.tree_sound.specs.Tables.{Tables, MisfitIn, OutsideIn, SoundIn}
use Rattle.volume_gate.specs.Gate.{Uneven, Unfit, broken_rows}

-- r is the number of the row of sizes that applies first, 1 or 2; another number where none does
pub record Sizes (misfit invalid : Type 0) (r : ℕ) : Type 0 where
  pub one : r ≡ 1 → misfit
  pub fits : r ≢ 1 → misfit → ⊥
  pub two : r ≡ 2 → invalid
  pub valid : r ≢ 1 → r ≢ 2 → invalid → ⊥

-- no row of sizes applies
pub record Fit (t : Bytes) (d l : ℕ) (s : Tables) : Type 0 where
  pub even : Uneven t d l → ⊥
  pub fit : Unfit t l → ⊥
  pub tables : MisfitIn s → ⊥
  pub inside : OutsideIn s → ⊥

-- the rows of sizes, over both layers
abbrev pub size_rows : (t : Bytes) (d l : ℕ) (s : Tables) → List (Row Answer)
size_rows t d l s = row (Uneven t d l ⊎ MisfitIn s) SizeMismatch ∷ row (Unfit t l ⊎ OutsideIn s) InvalidValue ∷ []

-- none applies, or the first that does refuses
abbrev pub SizedOf : (t : Bytes) (d l : ℕ) (s : Tables) → Answer → Type 0
SizedOf t d l s (Ok told) = Fit t d l s
SizedOf t d l s (Err why) = Given (size_rows t d l s) (Err why)

-- both layers are sound
pub record Sounds (t : Bytes) (s : Tables) : Type 0 where
  pub none : None (broken_rows t s)
  pub blocks : block-table.Sound t (block.blocks t)
  pub tree : SoundIn s

-- they are, or the first that is not refuses
abbrev pub SoundOf : (t : Bytes) (s : Tables) → Answer → Type 0
SoundOf t s (Ok told) = Sounds t s
SoundOf t s (Err why) = Given (broken_rows t s) (Err why)
