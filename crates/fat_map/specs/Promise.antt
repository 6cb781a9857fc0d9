-- The shape that the promises of the calls with a map have: what the call without a map gives, and the map afterwards.
use Rattle.std.specs.Prelude.{List, [], ◌++◌, ℕ, drop}
use Rattle.order.specs.First.{Row}
use Rattle.order.specs.Gate.{cleared}
use Rattle.order.specs.Giving.{giving}
use Rattle.order.specs.Beside.{Promised}
pub use Rattle.order.specs.Beside.{Beside, beside}
use Rattle.order.specs.Answer.{Answer}
use Rattle.order.specs.Answer.{Done}
use Rattle.fat_node.specs.Entry.{Bytes}
use Rattle.fat_node.specs.Sizes.{blocks}
use Rattle.map_bits.specs.Bits.{words_in}
use Rattle.map_inner.specs.Map.{map_of}
use Rattle.fat_map.specs.Gate.{map_gate, map_rows}

-- what a call gives without a map, and the map afterwards
pub record Mapped (A : Type 0) : Type 0 where
  pub given : A
  pub map : List ℕ

abbrev pub mapped : {A : Type 0} → A → List ℕ → Mapped A
mapped given map = record { given = given; map = map }

-- the map with the words of n's blocks as the table has them; the words past them stay
unfoldable pub redrawn : (n : ℕ) (t : Bytes) (map : List ℕ) → List ℕ
redrawn n t map = map_of n t ++ drop (words_in n) map

-- a call that changes the table: refuse a is what the call without a map gives with the answer a, tests are its own refusals, done is what it gives where
-- none applies, and after the table then. A refusal leaves the map
unfoldable pub MapPromise : {A : Type 0} (refuse : Answer → A) (t : Bytes) (d l : ℕ) (work map : List ℕ) (tests : List (Row Answer)) (done : A) (after : Bytes)
    → Beside (Mapped A) → Type 0
MapPromise refuse t d l work map tests done after o =
    Promised (map_gate (λ a w. beside (mapped (refuse a) map) w) t d l (map_rows t l map) work map) (cleared (blocks t) work)
    (giving (λ a. mapped (refuse a) map) tests) (mapped done (redrawn (blocks t) after map)) o

-- the promise of build: the table stays, and Done draws the map, whatever stood there
unfoldable pub BuildPromise : (t : Bytes) (d l : ℕ) (work map : List ℕ) → Beside (Mapped Answer) → Type 0
BuildPromise t d l work map o =
    Promised (map_gate (λ a w. beside (mapped a map) w) t d l [] work map) (cleared (blocks t) work) [] (mapped Done (redrawn (blocks t) t map)) o
