-- What it is that a history ends so, by the calls' own promises.
use Rattle.std.specs.Prelude.{◌≡◌, List, [], ◌∷◌, ℕ, ◌*◌, ◌≤◌, length}
use Rattle.order.specs.Answer.{Done}
use Rattle.fat_node.specs.Entry.{Bytes}
use Rattle.fat_node.specs.Sizes.{blocks}
use Rattle.fat_promises.specs.Promise.{Beside}
use Rattle.fat_promises.specs.Calls.{Create, CreatePromise, Change, DeletePromise}
use Rattle.fat_retrace.specs.History.{Call, create, delete}

-- whatever calls give that keep their promises: run from the table t on, with blocks of l bytes and work lists that are long enough, each is answered Done,
-- and the table that the last one leaves has P
abbrev pub Ends : List Call → ℕ → Bytes → (Bytes → Type 0) → Type 0
Ends [] l t P = P t
Ends (create count ∷ h) l t P =
    (work : List ℕ) (o : Beside Create) → blocks t ≤ length work → CreatePromise t (blocks t * l) l work count o
    → (o.given.answer ≡ Done) × Ends h l o.given.table P
Ends (delete b ∷ h) l t P =
    (work : List ℕ) (o : Beside Change) → blocks t ≤ length work → DeletePromise t (blocks t * l) l work b o
    → (o.given.answer ≡ Done) × Ends h l o.given.table P
