-- What the functions inside ask for and say. No promise needs it.
use Rattle.std.specs.Prelude.{◌≡◌, List, ℕ, ◌+◌, ◌*◌, ◌/◌, ◌≤◌, ◌<◌, length, get_or, take, drop, Ok, Err}
use Rattle.order.specs.First.{Row}
use Rattle.order.specs.Given.{Given, None}
use Rattle.order.specs.Answer.{Answer}

-- the bytes lie within the list, and in blocks below n
pub record Domestic (n : ℕ) (list : List ℕ) (l pos many : ℕ) : Type 0 where
  pub room : pos + many ≤ length list * l
  pub below : (k : ℕ) → pos ≤ k → k < pos + many → get_or list (k / l) 0 < n

-- r are the listed blocks that many bytes from pos on lie in
pub record Touched (list : List ℕ) (l pos many : ℕ) (r : List ℕ) : Type 0 where
  pub is : r ≡ take (length r) (drop (pos / l) list)
  pub all : 1 ≤ many → pos + many ≤ (pos / l + length r) * l
  -- in each of them lies a byte
  pub only : (i : ℕ) → i < length r → (1 ≤ many) × ((pos / l + i) * l < pos + many)

-- len bytes from place at on are those of block b from its byte f on, as many as wanted or all that it has
pub record ShareOf (l b f want at len : ℕ) : Type 0 where
  pub place : at ≡ b * l + f
  pub most : len ≤ want
  pub fits : f + len ≤ l
  pub all : len < want → f + len ≡ l

-- what tests say: one gives this refusal, or none applies
abbrev pub JudgeSays : List (Row Answer) → Answer → Type 0
JudgeSays rs (Ok done) = None rs
JudgeSays rs (Err why) = Given rs (Err why)
