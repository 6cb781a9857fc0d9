-- A block length that is not in use, whatever the call's own rows are.
use mathlib.Core.Path.{◌≡◌}
use mathlib.Core.List.{List, ◌++◌}
use mathlib.Core.Logic.{◌⊎◌, inl, inr}
use Prim.Native.Nat.{ℕ}
use Rattle.order.specs.First.{Row}
use Rattle.order.specs.Gate.{cleared}
use Rattle.order.specs.Given.{None}
use Rattle.order.specs.Answer.{Answer}
use Rattle.order.specs.Answer.{ReadOnlyVolume}
use Rattle.fat_node.specs.Entry.{Bytes}
use Rattle.fat_node.specs.Sizes.{blocks}
use Rattle.fat_test.specs.Gate.{InUse, block_gate}
use Rattle.fat_promises.specs.Promise.{Beside, beside, ChangePromise}

-- read_only_answer: where sizes, work list and soundness pass, and the block length is not in use, every call that would change something answers 20
-- and changes nothing, whatever it is asked: 0 blocks, no file, no bytes
pub read_only_answer : {A : Type 0} (refuse : Answer → A) (t : Bytes) (d l : ℕ) (work : List ℕ) (own : List (Row A)) (done : A) (o : Beside A)
    → None (block_gate (λ a w. beside (refuse a) w) t d l work)
    → (InUse l → ⊥)
    → ChangePromise refuse t d l work own done o
    → o ≡ beside (refuse ReadOnlyVolume) (cleared (blocks t) work)
unfolding ChangePromise
read_only_answer refuse t d l work own done o (a, (b, (c, (s, _)))) u (inl p) = absurd (a p.0)
read_only_answer refuse t d l work own done o (a, (b, (c, (s, _)))) u (inr (_, inl p)) = absurd (b p.0)
read_only_answer refuse t d l work own done o (a, (b, (c, (s, _)))) u (inr (_, inr (_, inl p))) = absurd (c p.0)
read_only_answer refuse t d l work own done o (a, (b, (c, (s, _)))) u (inr (_, inr (_, inr (_, inl p)))) = absurd (s p.0)
read_only_answer refuse t d l work own done o (a, (b, (c, (s, _)))) u (inr (_, inr (_, inr (_, inr (_, inl p))))) = p.1
read_only_answer refuse t d l work own done o (a, (b, (c, (s, _)))) u (inr (_, inr (_, inr (_, inr (_, inr (n, _)))))) = absurd (n u)
