-- A whole promise from its parts: the front rows refuse, or they pass and the call's own rows decide.
use mathlib.Core.Path.{◌≡◌, ap}
use mathlib.Core.List.{List, [], ◌∷◌, ◌++◌}
use mathlib.Core.Logic.{◌⊎◌, inl, inr}
use Prim.Native.Nat.{ℕ}
use Rattle.order.specs.First.{Row, First}
use Rattle.order.specs.Given.{Given, None}
use Rattle.order.specs.Beside.{Beside, beside, within, Promised}
use Rattle.order.proofs.One.{front, behind}

-- what a call's own rows give, beside the work list
pub within_first : {A : Type 0} (work : List ℕ) (own : List (Row A)) (done o : A) → First own done o → First (within work own) (beside done work) (beside o work)
within_first work [] done o p = ap (λ x. beside x work) p
within_first work (r ∷ own) done o (inl p) = inl (p.0, ap (λ x. beside x work) p.1)
within_first work (r ∷ own) done o (inr p) = inr (p.0, within_first work own done o p.1)

module _ {A : Type 0} (rows : List (Row (Beside A))) (work : List ℕ) (own : List (Row A)) (done : A) where
  pub refused : (o : Beside A) → Given rows o → Promised rows work own done o
  refused o g = front rows (within work own) (beside done work) o g

  pub passed : (o : A) → None rows → First own done o → Promised rows work own done (beside o work)
  passed o n p = behind rows (within work own) (beside done work) (beside o work) n (within_first work own done o p)
