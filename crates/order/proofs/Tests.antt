-- Tests, carried to the rows of a call that gives g a with the answer a.
use mathlib.Core.Path.{◌≡◌, refl, ap}
use mathlib.Core.List.{List, [], ◌∷◌}
use mathlib.Core.Logic.{◌⊎◌, inl, inr}
use Rattle.order.specs.First.{Row, First}
use Rattle.order.specs.Given.{Given, None}
use Rattle.order.specs.Giving.{giving}
use Rattle.order.specs.Answer.{Answer}

module _ {A : Type 0} (g : Answer → A) where
  -- a test refuses
  pub test_refused : (d : A) (rs : List (Row Answer)) (a : Answer) → Given rs a → First (giving g rs) d (g a)
  test_refused d [] a z = absurd z
  test_refused d (r ∷ rs) a (inl p) = inl (p.0, ap g p.1)
  test_refused d (r ∷ rs) a (inr p) = inr (p.0, test_refused d rs a p.1)

  -- no test applies
  pub tests_passed : (d : A) (rs : List (Row Answer)) → None rs → First (giving g rs) d d
  tests_passed d [] n = refl
  tests_passed d (r ∷ rs) n = inr (n.0, tests_passed d rs n.1)

  pub none_giving : (rs : List (Row Answer)) → None rs → None (giving g rs)
  none_giving [] n = tt
  none_giving (r ∷ rs) n = (n.0, none_giving rs n.1)

  pub giving_none : (rs : List (Row Answer)) → None (giving g rs) → None rs
  giving_none [] n = tt
  giving_none (r ∷ rs) n = (n.0, giving_none rs n.1)
