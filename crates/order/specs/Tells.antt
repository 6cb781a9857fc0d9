-- What a test that answers yes or no promises.
use Rattle.std.specs.Prelude.{◌≡◌, Bool, true}

-- r tells whether P holds
pub record Tells (P : Type 0) (r : Bool) : Type 0 where
  pub yes : r ≡ true → P
  pub only : P → r ≡ true
