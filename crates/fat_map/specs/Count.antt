-- The promise of the stretch query: it takes a map and n alone, and answers for the map that it is given.
use Rattle.std.specs.Prelude.{List, [], ◌∷◌, ◌⊎◌, ℕ, ◌<◌, length}
use Rattle.order.specs.First.{Row, row, First}
use Rattle.order.specs.Giving.{giving}
use Rattle.order.specs.Answer.{Answer}
use Rattle.order.specs.Answer.{Done, InvalidValue, WorkTooShort}
use Rattle.map_bits.specs.Bits.{words_in, counted_in}

-- the answer of the query, and the set bits of the stretch
pub record Counted : Type 0 where
  pub answer : Answer
  pub free : ℕ

-- the same, by its parts
abbrev pub count_gives : (answer : Answer) (free : ℕ) → Counted
count_gives answer free = record { answer = answer; free = free }

-- its rows: n out of its bounds, a map under n bits, then the stretch
abbrev pub count_tests : (map : List ℕ) (n a b : ℕ) → List (Row Answer)
count_tests map n a b =
    row ((n < 1) ⊎ (1_000_000 < n)) InvalidValue
    ∷ row (length map < words_in n) WorkTooShort
    ∷ row ((b < a) ⊎ (n < b)) InvalidValue
    ∷ []

-- Done: the set bits from block a up to and without block b
abbrev pub CountPromise : (map : List ℕ) (n a b : ℕ) → Counted → Type 0
CountPromise map n a b o = First (giving (λ x. count_gives x 0) (count_tests map n a b)) (count_gives Done (counted_in map a b)) o
