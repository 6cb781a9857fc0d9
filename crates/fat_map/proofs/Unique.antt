-- Each call's promise and its input leave one answer.
use mathlib.Core.Path.{◌≡◌}
use mathlib.Core.List.{List, [], ◌++◌}
use Prim.Native.Nat.{ℕ}
use Rattle.order.specs.First.{Row}
use Rattle.order.specs.Gate.{cleared}
use Rattle.order.specs.Giving.{giving}
use Rattle.order.specs.Beside.{within}
use Rattle.order.specs.Answer.{Answer}
use Rattle.order.specs.Answer.{Done}
use Rattle.order.proofs.One.{one}
use Rattle.fat_node.specs.Entry.{Bytes}
use Rattle.fat_node.specs.Sizes.{blocks}
use Rattle.map_bits.specs.Bits.{counted_in}
use Rattle.fat_map.specs.Gate.{map_gate, map_rows}
use Rattle.fat_map.specs.Promise.{Beside, beside, Mapped, mapped, redrawn, MapPromise, BuildPromise}
use Rattle.fat_map.specs.Count.{Counted, count_gives, count_tests, CountPromise}

-- of create, resize and delete with a map
pub one_map : {A : Type 0} (refuse : Answer → A) (t : Bytes) (d l : ℕ) (work map : List ℕ) (tests : List (Row Answer)) (done : A) (after : Bytes) (o o' : Beside (Mapped A))
    → MapPromise refuse t d l work map tests done after o → MapPromise refuse t d l work map tests done after o' → o ≡ o'
unfolding MapPromise
one_map refuse t d l work map tests done after o o' p q =
    one (map_gate (λ a w. beside (mapped (refuse a) map) w) t d l (map_rows t l map) work map ++ within (cleared (blocks t) work) (giving (λ a. mapped (refuse a) map) tests))
    (beside (mapped done (redrawn (blocks t) after map)) (cleared (blocks t) work)) o o' p q

pub one_build : (t : Bytes) (d l : ℕ) (work map : List ℕ) (o o' : Beside (Mapped Answer)) → BuildPromise t d l work map o → BuildPromise t d l work map o' → o ≡ o'
unfolding BuildPromise
one_build t d l work map o o' p q =
    one (map_gate (λ a w. beside (mapped a map) w) t d l [] work map ++ within (cleared (blocks t) work) [])
    (beside (mapped Done (redrawn (blocks t) t map)) (cleared (blocks t) work)) o o' p q

pub one_count : (map : List ℕ) (n a b : ℕ) (o o' : Counted) → CountPromise map n a b o → CountPromise map n a b o' → o ≡ o'
one_count map n a b o o' p q = one (giving (λ x. count_gives x 0) (count_tests map n a b)) (count_gives Done (counted_in map a b)) o o' p q
