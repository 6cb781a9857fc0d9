-- What the functions that count say.
use Rattle.std.specs.Prelude.{◌≡◌, List, ℕ, ◌≤◌}
use Rattle.map_bits.specs.Bits.{counted_in}

-- r is the count from a up to and without b, and no more than top
pub record CountOf (map : List ℕ) (a b top r : ℕ) : Type 0 where
  pub is : r ≡ counted_in map a b
  pub most : r ≤ top
