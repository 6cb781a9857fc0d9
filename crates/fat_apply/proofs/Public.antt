-- The public call: the gate, then the call that requires soundness on the front of the work list, which it leaves cleared.
use mathlib.Core.Path.{◌≡◌}
use mathlib.Core.List.{List, ◌++◌}
use Prim.Native.Nat.{ℕ}
use lib.ListN.{length, drop, replicate}
use Rattle.fat_node.specs.Entry.{Bytes}
use Rattle.fat_node.specs.Sizes.{blocks}
use Rattle.fat_test.specs.Gate.{Uneven, retired}
use Rattle.fat_test.specs.Inner.Gated.{OpenedWith}
use Rattle.fat_promises.specs.Promise.{Beside, beside, ChangePromise}
use Rattle.fat_promises.proofs.Unique.{one_change}
use Rattle.fat_plan.proofs.Public.{went}
use Rattle.fat_apply.specs.Apply.{Apply, apply_gives, apply_rows, apply_done, ApplySound, ApplyPromise}

-- the gate is open, and the call's own rows decide
pub apply_passed : (t d : Bytes) (l : ℕ) (work work' : List ℕ) (free files n : ℕ) → OpenedWith (Uneven t (length d) l) t l (retired l) work work' free files → n ≡ blocks t
    → (b : ℕ) (plan : List ℕ) (o : Apply) (w : List ℕ)
    → ApplySound n t d l b plan o
    → w ≡ replicate n 0
    → ApplyPromise t d l work b plan (beside o (w ++ drop n work'))
unfolding ChangePromise
apply_passed t d l work work' free files n g q b plan o w p z =
    went t (length d) l (retired l) work work' free files n g q (λ a. apply_gives a 0 t d) (λ m. apply_rows m t d b plan) (λ m. apply_done m t d l b plan) o w p z

-- one answer: the promise of apply and its input leave one outcome
pub one_apply : (t d : Bytes) (l : ℕ) (work : List ℕ) (b : ℕ) (plan : List ℕ) (o o' : Beside Apply) → ApplyPromise t d l work b plan o
    → ApplyPromise t d l work b plan o' → o ≡ o'
one_apply t d l work b plan o o' p q =
    one_change (λ a. apply_gives a 0 t d) t (length d) l work (apply_rows (blocks t) t d b plan) (apply_done (blocks t) t d l b plan) o o' p q
