-- What a call gives, from the tests that say its answer.
use mathlib.Core.Path.{refl, ap}
use mathlib.Core.List.{List, [], ◌∷◌}
use mathlib.Core.Logic.{inl, inr}
use Rattle.order.specs.First.{Row, First}
use Rattle.order.specs.Given.{Given, None}
use Rattle.order.specs.Giving.{giving}
use Rattle.order.specs.Answer.{Answer}

pub given_first : {A : Type 0} (g : Answer → A) (d : A) (rs : List (Row Answer)) (a : Answer) → Given rs a → First (giving g rs) d (g a)
given_first g d [] a p = absurd p
given_first g d (r ∷ rs) a (inl p) = inl (p.0, ap g p.1)
given_first g d (r ∷ rs) a (inr p) = inr (p.0, given_first g d rs a p.1)

pub none_first : {A : Type 0} (g : Answer → A) (d : A) (rs : List (Row Answer)) → None rs → First (giving g rs) d d
none_first g d [] n = refl
none_first g d (r ∷ rs) n = inr (n.0, none_first g d rs n.1)
