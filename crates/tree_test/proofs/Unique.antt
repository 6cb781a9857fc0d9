-- The test's promise and its input leave one answer.
use mathlib.Core.Path.{◌≡◌}
use mathlib.Core.List.{List}
use Prim.Native.Nat.{ℕ}
use Rattle.order.proofs.One.{one}
use Rattle.tree_sound.specs.Tables.{Tables}
use Rattle.tree_test.specs.Gate.{tree_gate}
use Rattle.tree_test.specs.Promise.{tested, test_done, TestPromise}
use Rattle.order.specs.Answer.{Answer}

-- whatever two outcomes the promise of `test` allows are the same: answer and work list
pub one_test : (s : Tables) (work : List ℕ) (o o' : Answer × List ℕ) → TestPromise s work o
    → TestPromise s work o' → o ≡ o'
one_test s work o o' = one (tree_gate tested s work) (test_done s work) o o'
