-- The numbers of what is told of a chain.
use Rattle.std.specs.Prelude.{ℕ}
use Rattle.salvage_shared.specs.declared.Trust.{Trust}
use Rattle.salvage_shared.specs.declared.Trust.TheVariants.{Whole, Cut, Shared, NotFollowed}

-- as they stand in the lent list
abbrev pub number_of : Trust → ℕ
number_of Whole = 0
number_of Cut = 1
number_of Shared = 2
number_of NotFollowed = 3
