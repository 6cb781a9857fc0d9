-- The test's promise and its input leave one answer.
use mathlib.Core.Path.{◌≡◌}
use mathlib.Core.List.{List}
use Prim.Native.Nat.{ℕ}
use Rattle.order.proofs.One.{one}
use Rattle.fat_node.specs.Entry.{Bytes}
use Rattle.fat_test.specs.Gate.{test_gate}
use Rattle.fat_test.specs.Promise.{Tested, test_refused, test_done, TestPromise}

pub one_answer : (t : Bytes) (work : List ℕ) (o o' : Tested × List ℕ)
    → TestPromise t work o → TestPromise t work o' → o ≡ o'
one_answer t work o o' p q = one (test_gate test_refused t work) (test_done t work) o o' p q
