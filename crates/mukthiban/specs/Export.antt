-- What an export says of the number that it gives.
use Rattle.std.specs.Prelude.{◌≡◌, ℕ}
use Rattle.order.specs.Answer.{number_of, fault, fault_in}
use Rattle.order.specs.Answer.{Answer}

-- n is the number (RULES 2.1) of an answer of which the call's own promise P holds
abbrev pub Exported : ℕ → (Answer → Type 0) → Type 0
Exported n P = (a : Answer) × (n ≡ number_of a) × P a

-- the same of a block call, whose answer has two fields more: e and r are the entry and the rule that the answer says, 0 and 0 unless it is BrokenFat
abbrev pub Located : (n e r : ℕ) → (Answer → Type 0) → Type 0
Located n e r P = (a : Answer) × (n ≡ number_of a) × (fault e r ≡ fault_in a) × P a
