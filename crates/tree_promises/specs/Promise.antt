-- The whole promises of the calls on the entry tables: the rows of sizes, work list and soundness, then the call's own. refuse a is what a call gives with
-- the answer a, own are its own rows, done is what it gives where none applies. The three laws by which a call keeps one are in proofs/Gated.antt.
use Rattle.std.specs.Prelude.{List, ℕ, length}
use Rattle.order.specs.First.{Row}
use Rattle.order.specs.Gate.{cleared}
use Rattle.order.specs.Beside.{Beside, beside, Promised}
use Rattle.order.specs.Answer.{Answer}
use Rattle.tree_sound.specs.Tables.{Tables, rooms_in}
use Rattle.tree_test.specs.Gate.{tree_gate, open_gate}
use Rattle.tree_promises.specs.declared.Kind.{Kind}
use Rattle.tree_promises.specs.Kinds.{kind_room}

-- the work list once sizes, work list and soundness have passed
abbrev pub worked : (s : Tables) (work : List ℕ) → List ℕ
worked s work = cleared (rooms_in s) work

-- of a call that takes no open records
unfoldable pub TreePromise : {A : Type 0} (refuse : Answer → A) (s : Tables) (work : List ℕ) (own : List (Row A)) (done : A) → Beside A → Type 0
TreePromise refuse s work own done o = Promised (tree_gate (λ a w. beside (refuse a) w) s work) (worked s work) own done o

-- of a call that takes the open records of the kind's table
unfoldable pub OpensPromise : {A : Type 0} (kind : Kind) (refuse : Answer → A) (s : Tables) (opens work : List ℕ) (own : List (Row A)) (done : A) → Beside A → Type 0
OpensPromise kind refuse s opens work own done o =
    Promised (open_gate (λ a w. beside (refuse a) w) s (length opens) (kind_room kind s) work) (worked s work) own done o
