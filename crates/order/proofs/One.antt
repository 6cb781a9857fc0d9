-- One answer; and what appended rows need.
use mathlib.Core.Path.{◌≡◌, sym, ◌∙◌}
use mathlib.Core.List.{List, [], ◌∷◌, ◌++◌}
use mathlib.Core.Logic.{◌⊎◌, inl, inr}
use Rattle.order.specs.First.{Row, First}
use Rattle.order.specs.Given.{Given, None}

-- a promise and its input leave one answer
pub one : {A : Type 0} (rs : List (Row A)) (d o o' : A) → First rs d o → First rs d o' → o ≡ o'
one [] d o o' p q = p ∙ sym q
one (r ∷ rs) d o o' (inl p) (inl q) = p.1 ∙ sym q.1
one (r ∷ rs) d o o' (inl p) (inr q) = absurd (q.0 p.0)
one (r ∷ rs) d o o' (inr p) (inl q) = absurd (p.0 q.0)
one (r ∷ rs) d o o' (inr p) (inr q) = one rs d o o' p.1 q.1

-- what the front rows give is given, whatever stands after them
pub front : {A : Type 0} (rs qs : List (Row A)) (d o : A) → Given rs o → First (rs ++ qs) d o
front [] qs d o p = absurd p
front (r ∷ rs) qs d o (inl p) = inl p
front (r ∷ rs) qs d o (inr p) = inr (p.0, front rs qs d o p.1)

-- where no front row applies, the rows after them decide
pub behind : {A : Type 0} (rs qs : List (Row A)) (d o : A) → None rs → First qs d o → First (rs ++ qs) d o
behind [] qs d o n p = p
behind (r ∷ rs) qs d o n p = inr (n.0, behind rs qs d o n.1 p)

-- where no row applies, what is given is what Done gives
pub settled : {A : Type 0} (rs : List (Row A)) (d o : A) → None rs → First rs d o → o ≡ d
settled [] d o n p = p
settled (r ∷ rs) d o n (inl p) = absurd (n.0 p.0)
settled (r ∷ rs) d o n (inr p) = settled rs d o n.1 p.1

-- where a row gives an outcome, that is what is given
pub refused : {A : Type 0} (rs : List (Row A)) (d o o' : A) → Given rs o' → First rs d o → o ≡ o'
refused [] d o o' g p = absurd g
refused (r ∷ rs) d o o' (inl g) (inl p) = p.1 ∙ sym g.1
refused (r ∷ rs) d o o' (inl g) (inr p) = absurd (p.0 g.0)
refused (r ∷ rs) d o o' (inr g) (inl p) = absurd (g.0 p.0)
refused (r ∷ rs) d o o' (inr g) (inr p) = refused rs d o o' g.1 p.1
