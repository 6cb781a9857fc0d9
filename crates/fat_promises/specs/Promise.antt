-- The shape that the promises of the calls on files have: the rows that all begin with, then the call's own.
use Rattle.std.specs.Prelude.{List, ◌++◌, ℕ}
use Rattle.order.specs.First.{Row}
use Rattle.order.specs.Gate.{cleared}
use Rattle.order.specs.Giving.{giving}
use Rattle.order.specs.Beside.{Promised}
pub use Rattle.order.specs.Beside.{Beside, beside, within}
use Rattle.order.specs.Answer.{Answer}
use Rattle.fat_node.specs.Entry.{Bytes}
use Rattle.fat_node.specs.Sizes.{blocks}
use Rattle.fat_test.specs.Gate.{retired, block_gate, change_gate}

-- the whole promise of a call that changes neither table nor data, over a table t, data of d bytes, blocks of l bytes and a work list: refuse a is what the call gives with the answer a, own its own
-- rows, done what it gives where none applies
unfoldable pub Promise : {A : Type 0} (refuse : Answer → A) (t : Bytes) (d l : ℕ) (work : List ℕ) (own : List (Row A)) (done : A) (o : Beside A) → Type 0
Promise refuse t d l work own done o = Promised (block_gate (λ a w. beside (refuse a) w) t d l work) (cleared (blocks t) work) own done o

-- the same of a call that changes the table or the data, and so has the row of the block length after soundness
unfoldable pub ChangePromise : {A : Type 0} (refuse : Answer → A) (t : Bytes) (d l : ℕ) (work : List ℕ) (own : List (Row A)) (done : A) (o : Beside A) → Type 0
ChangePromise refuse t d l work own done o = Promised (change_gate (λ a w. beside (refuse a) w) t d l work) (cleared (blocks t) work) own done o

-- the rows of such a call where sizes, work list and soundness have passed: the block length, then its own
abbrev pub change_rows : {A : Type 0} (refuse : Answer → A) (l : ℕ) (own : List (Row A)) → List (Row A)
change_rows refuse l own = giving refuse (retired l) ++ own
