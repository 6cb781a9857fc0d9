-- What passes the checker's tests, by name, and the reverse.
use mathlib.Core.Path.{◌≡◌, refl, ap}
use mathlib.Core.List.{List, [], ◌∷◌}
use mathlib.Core.Logic.{◌⊎◌, inl, inr, ⊎_elim}
use Prim.Native.Nat.{ℕ, ◌≤◌}
use native.Mathlib.Omega.{arith}
use lib.ListN.{length, get_or, drop}
use Rattle.links.proofs.Held.{same_or}
use Rattle.order.specs.Given.{None}
use Rattle.fat_node.specs.Entry.{Bytes}
use Rattle.fat_node.proofs.Nodes.{le_or_lt}
use Rattle.fat_table.specs.Sound.{File}
use Rattle.fat_table.specs.Chain.{free_at, file_at}
use Rattle.fat_table.specs.Layout.{covers}
use Rattle.fat_table.proofs.Files.{Whole}
use Rattle.fat_table.proofs.Decided.{file_decided}
use Rattle.fat_promises.specs.Blocks.{blocks_of}
use Rattle.fat_plan.specs.Plan.{moves, target_of, Accepted}
use Rattle.fat_plan.specs.Promise.{check_tests, MayCheck}

-- two lists of numbers are the same or not
list_or : (a b : List ℕ) → (a ≡ b) ⊎ (a ≡ b → ⊥)
list_or [] [] = inl refl
list_or [] (y ∷ b) = inr (λ e. let z : ⊥ = omega (arith, ap {B = ℕ} length e) in absurd z)
list_or (x ∷ a) [] = inr (λ e. let z : ⊥ = omega (arith, ap {B = ℕ} length e) in absurd z)
list_or (x ∷ a) (y ∷ b) =
    ⊎_elim
    (λ p. ⊎_elim (λ q. inl (λ i. p i ∷ q i)) (λ q. inr (λ e. q (ap (drop 1) e))) (list_or a b))
    (λ p. inr (λ e. p (ap (λ (l : List ℕ). get_or l 0 0) e)))
    (same_or x y)

-- a plan that is not rejected is accepted
accepted : (n : ℕ) (t : Bytes) (b : ℕ) (plan : List ℕ) → ((Accepted n t b plan → ⊥) → ⊥) → Accepted n t b plan
accepted n t b plan h = record {
  each = ⊎_elim (λ e. e) (λ e. absurd (h (λ a. e a.each))) (list_or plan (moves (blocks_of (file_at n t b)) (target_of plan)));
  free = λ x p q. ⊎_elim (λ e. e) (λ e. absurd (h (λ a. omega (arith, e, a.free x p q)))) (le_or_lt 1 (covers x (free_at n t)));
}

module _ (n : ℕ) (t : Bytes) (b : ℕ) (plan : List ℕ) where
  pub may_check : Whole n t → None (check_tests n t b plan) → MayCheck n t b plan
  may_check w (is, (good, _)) = record {
    file = ⊎_elim (λ f. f) (λ f. absurd (is f)) (file_decided n t b w);
    accepted = accepted n t b plan good;
  }

  pub none_check : MayCheck n t b plan → None (check_tests n t b plan)
  none_check m = (λ h. h m.file, (λ h. h m.accepted, tt))
