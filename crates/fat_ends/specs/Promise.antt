-- What the two passes tell of a table of n blocks.
use Rattle.std.specs.Prelude.{◌≡◌, ℕ, Option, Some, None}
use Rattle.fat_node.specs.Entry.{Bytes}
use Rattle.fat_table.specs.Sound.{Sound}
use Rattle.fat_table.specs.Counts.{free_blocks, other_chains}
use Rattle.fat_node.specs.declared.Counts.{Counts}

-- it is sound, and these are its free blocks and the number of its other chains; or it is not sound
abbrev pub Judged : Bytes → ℕ → Option Counts → Type 0
Judged t n (Some c) = Sound t n × (c.free ≡ free_blocks n t) × (c.files ≡ other_chains n t)
Judged t n None = Sound t n → ⊥
