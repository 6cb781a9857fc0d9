-- A function that decides the rows a call begins with says so of the refusal alone; this carries it to what the call gives.
use mathlib.Core.Path.{◌≡◌, ap}
use mathlib.Core.List.{List, [], ◌∷◌}
use mathlib.Core.Logic.{◌⊎◌, inl, inr}
use Prim.Native.Nat.{ℕ}
use Rattle.order.specs.First.{Row}
use Rattle.order.specs.Gate.{cleared, later, gate, Refusal, refusal}
use Rattle.order.specs.Given.{Given, None}
use Rattle.order.specs.Answer.{Answer}

module _ {A : Type 0} (refuse : Answer → List ℕ → A) (k : ℕ) (work : List ℕ) where
  later_given : (after : List (Row Answer)) (a : Answer) (w : List ℕ) → Given (later refusal k work after) (refusal a w) → Given (later refuse k work after) (refuse a w)
  later_given [] a w z = absurd z
  later_given (r ∷ rs) a w (inl p) = inl (p.0, ap (λ (r : Refusal). refuse r.answer r.work) p.1)
  later_given (r ∷ rs) a w (inr p) = inr (p.0, later_given rs a w p.1)

  later_none : (after : List (Row Answer)) → None (later refusal k work after) → None (later refuse k work after)
  later_none [] n = tt
  later_none (r ∷ rs) n = (n.0, later_none rs n.1)

  -- the later rows, by their answers alone
  pub later_says : (after : List (Row Answer)) (a : Answer) → Given after a → Given (later refuse k work after) (refuse a (cleared k work))
  later_says [] a z = absurd z
  later_says (r ∷ rs) a (inl p) = inl (p.0, ap (λ (x : Answer). refuse x (cleared k work)) p.1)
  later_says (r ∷ rs) a (inr p) = inr (p.0, later_says rs a p.1)

  pub later_past : (after : List (Row Answer)) → None after → None (later refuse k work after)
  later_past [] n = tt
  later_past (r ∷ rs) n = (n.0, later_past rs n.1)

  pub past_later : (after : List (Row Answer)) → None (later refuse k work after) → None after
  past_later [] n = tt
  past_later (r ∷ rs) n = (n.0, past_later rs n.1)

  module _ (misfit invalid short : Type 0) (after : List (Row Answer)) where
    pub gate_given : (a : Answer) (w : List ℕ) → Given (gate refusal misfit invalid short after k work) (refusal a w) → Given (gate refuse misfit invalid short after k work) (refuse a w)
    gate_given a w (inl p) = inl (p.0, ap (λ (r : Refusal). refuse r.answer r.work) p.1)
    gate_given a w (inr (m, inl p)) = inr (m, inl (p.0, ap (λ (r : Refusal). refuse r.answer r.work) p.1))
    gate_given a w (inr (m, inr (i, inl p))) = inr (m, inr (i, inl (p.0, ap (λ (r : Refusal). refuse r.answer r.work) p.1)))
    gate_given a w (inr (m, inr (i, inr (s, p)))) = inr (m, inr (i, inr (s, later_given after a w p)))

    pub gate_none : None (gate refusal misfit invalid short after k work) → None (gate refuse misfit invalid short after k work)
    gate_none n = (n.0, (n.1.0, (n.1.1.0, later_none after n.1.1.1)))
