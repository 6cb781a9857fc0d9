-- What the exports of open and close promise: the kind of open is a number, 0 a reader's and 1 the writer's. Another is InvalidValue, as a size that is out
-- of bounds.
use Rattle.std.specs.Prelude.{List, ◌⊎◌, ℕ, zero, suc, ◌<◌, length}
use Rattle.order.specs.First.{Row}
use Rattle.order.specs.Giving.{giving}
use Rattle.order.specs.Answer.{Answer}
use Rattle.order.specs.Beside.{Beside, beside, Promised}
use Rattle.tree_test.specs.Gate.{entry_gate}
use Rattle.tree_sound.specs.Tables.{Tables, OutsideIn, rooms_in}
use Rattle.tree_opens.specs.declared.Want.{Want}
use Rattle.tree_opens.specs.declared.Want.TheVariants.{Reader, Writer}
use Rattle.tree_promises.specs.declared.Kind.{Kind}
use Rattle.tree_promises.specs.Promise.{worked}
use Rattle.tree_packed.specs.Opens.{Opens, InOrder}
use Rattle.tree_promises.specs.Packed.{Outcome, refuse, open_tests, open_done, close_tests, close_done}

abbrev pub want_of : (number : ℕ) → Want
want_of zero = Reader
want_of (suc n) = Writer

-- the rows of sizes, list, work list and soundness, with the number among the sizes, then the call's own
abbrev pub AskedPromise : (s : Tables) (o : Opens) (work : List ℕ) (number : ℕ) (tests : List (Row Answer)) (done : Outcome) → Beside Outcome → Type 0
AskedPromise s o work number tests done =
    Promised
    (entry_gate (λ a w. beside (refuse s o a) w) s ((OutsideIn s ⊎ (InOrder o → ⊥)) ⊎ (1 < number)) (length work < rooms_in s) work)
    (worked s work)
    (giving (refuse s o) tests)
    done

-- open and close of inode x, on all inputs
abbrev pub OpenKindPromise : (kind : Kind) (s : Tables) (o : Opens) (work : List ℕ) (x number : ℕ) → Beside Outcome → Type 0
OpenKindPromise kind s o work x number =
    AskedPromise s o work number (open_tests kind s o x (want_of number)) (open_done kind s o x (want_of number))

abbrev pub CloseKindPromise : (kind : Kind) (s : Tables) (o : Opens) (work : List ℕ) (x number : ℕ) → Beside Outcome → Type 0
CloseKindPromise kind s o work x number =
    AskedPromise s o work number (close_tests kind s o x (want_of number)) (close_done kind s o x (want_of number))
