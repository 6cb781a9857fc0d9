-- One check, and the rest from what it gave.
use mathlib.Core.Path.{◌≡◌, sym, subst}
use mathlib.Core.List.{List, ◌∷◌}
use Rattle.checks.specs.Check.{Check, Shows}

pub then : {S : Type 0} (c : Check S) (cs : List (Check S)) (s s' : S) → (o : c.Given) × c.promise s o
    → ((o : c.Given) → c.promise s o → (c.seen o ≡ c.wanted) × (c.after s o ≡ s')) → Shows cs s' → Shows (c ∷ cs) s
then {S} c cs s s' some all rest = (some, λ o p. ((all o p).0, subst (λ (x : S). Shows cs x) (sym (all o p).1) rest))
