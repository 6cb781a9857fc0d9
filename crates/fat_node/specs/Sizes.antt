-- The sizes of a block table.
use Rattle.std.specs.Prelude.{◌≡◌, ◌⊎◌, ℕ, ◌-◌, ◌/◌, ◌%◌, ◌<◌, length}
use Rattle.fat_node.specs.Entry.{Bytes}

-- n, the number of blocks
abbrev pub blocks : Bytes → ℕ
blocks t = length t / 8 - 1

-- the table is under 8 bytes or not a multiple of 8
abbrev pub Misfit : Bytes → Type 0
Misfit t = (length t < 8) ⊎ (length t % 8 ≡ 0 → ⊥)

-- n is not from 1 to 1,000,000
abbrev pub Outside : Bytes → Type 0
Outside t = (blocks t < 1) ⊎ (1_000_000 < blocks t)
