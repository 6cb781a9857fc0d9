-- What the calls that require soundness ask for.
use Rattle.std.specs.Prelude.{◌≡◌, ℕ, ◌+◌, ◌*◌, ◌≤◌, length}
use Rattle.fat_node.specs.Entry.{Bytes}
use Rattle.fat_table.specs.Sound.{Sound}

-- what the calls that require soundness ask for: a sound table of n blocks
pub record Volume (n : ℕ) (t : Bytes) : Type 0 where
  pub few : n ≤ 1000000
  pub room : length t ≡ 8 * (n + 1)
  pub sound : Sound t n

-- d bytes of data are n blocks of l bytes
pub record Data (n d l : ℕ) : Type 0 where
  pub some : 1 ≤ l
  pub few : l ≤ 65536
  pub fits : d ≡ n * l
