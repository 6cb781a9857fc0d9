-- The rows that a call with a map begins with: those of the call without one, where row 3 also speaks of the map, and after soundness the map's own row.
use Rattle.std.specs.Prelude.{◌≡◌, List, [], ◌∷◌, ◌++◌, ◌⊎◌, ℕ, ◌<◌, length, take}
use Rattle.order.specs.First.{Row, row}
use Rattle.order.specs.Gate.{gate}
use Rattle.order.specs.Answer.{unbroken}
use Rattle.order.specs.Answer.{Answer}
use Rattle.order.specs.Answer.{BrokenFat}
use Rattle.fat_node.specs.Entry.{Bytes}
use Rattle.fat_node.specs.Sizes.{blocks}
use Rattle.fat_test.specs.Gate.{unsound, retired, Uneven, Unfit}
use Rattle.map_bits.specs.Bits.{words_in}
use Rattle.map_inner.specs.Map.{map_of}

-- row 3: the work list has under n places, or the map under n bits
abbrev pub Short : (t : Bytes) (work map : List ℕ) → Type 0
Short t work map = (length work < blocks t) ⊎ (length map < words_in (blocks t))

-- the words of n's blocks are the table's map; words past them are not looked at
abbrev pub IsMap : (t : Bytes) (map : List ℕ) → Type 0
IsMap t map = take (words_in (blocks t)) map ≡ map_of (blocks t) t

-- the row of a map that is not the table's: the table is not blamed, so entry and rule are 0
abbrev pub strays : (t : Bytes) (map : List ℕ) → List (Row Answer)
strays t map = row (IsMap t map → ⊥) (BrokenFat unbroken) ∷ []

-- refuse a w is what the call gives with the answer a and the work list w; more are its rows after soundness
abbrev pub map_gate : {A : Type 0} (refuse : Answer → List ℕ → A) (t : Bytes) (d l : ℕ) (more : List (Row Answer)) (work map : List ℕ) → List (Row A)
map_gate refuse t d l more work map = gate refuse (Uneven t d l) (Unfit t l) (Short t work map) (unsound t ++ more) (blocks t) work

-- the rows after soundness of a call that changes the table: the map's, then that of the block length
abbrev pub map_rows : (t : Bytes) (l : ℕ) (map : List ℕ) → List (Row Answer)
map_rows t l map = strays t map ++ retired l
