-- What the rows of a promise say of an outcome.
use mathlib.Core.Path.{◌≡◌, refl, ap, subst⁻¹}
use mathlib.Core.List.{List, [], ◌∷◌, ◌++◌}
use mathlib.Core.Logic.{◌⊎◌, inl, inr, ⊎_elim}
use mathlib.Core.Bool.{Bool, true, false, ◌&&◌}
use Prim.Native.Nat.{ℕ, ◌≤◌}
use native.Mathlib.Omega.{arith}
use lib.Dec.{leb}
use borrow.Author.Tests.{leb-true}
use Rattle.order.specs.First.{Row, First}
use Rattle.order.specs.Given.{None}
use Rattle.order.specs.Giving.{giving}
use Rattle.order.specs.Gate.{later, gate, cleared}
use Rattle.order.specs.Beside.{Beside, beside, within}
use Rattle.order.specs.Answer.{number_of}
use Rattle.order.specs.Answer.{Answer}
use Rattle.order.specs.Answer.{Done, SizeMismatch, InvalidValue, WorkTooShort}

-- what each row gives has P
abbrev pub Each : {A : Type 0} → (A → Type 0) → List (Row A) → Type 0
Each P [] = Unit {0}
Each P (r ∷ rs) = P r.gives × Each P rs

-- an outcome is the last, and no row applies, or it has P
pub last_or : {A : Type 0} (P : A → Type 0) (rs : List (Row A)) (d o : A) → Each P rs → First rs d o → P o ⊎ (None rs × (o ≡ d))
last_or P [] d o g p = inr (tt, p)
last_or P (r ∷ rs) d o g (inl p) = inl (subst⁻¹ P p.1 g.0)
last_or P (r ∷ rs) d o g (inr p) = ⊎_elim (λ e. inl e) (λ w. inr ((p.0, w.0), w.1)) (last_or P rs d o g.1 p.1)

-- where no row applies, the last is given
pub last_given : {A : Type 0} (rs : List (Row A)) (d : A) → None rs → First rs d d
last_given [] d n = refl
last_given (r ∷ rs) d n = inr (n.0, last_given rs d n.1)

-- rows made of rows ------------------------------------------------------------------------------------------------

pub each_any : {A : Type 0} (P : A → Type 0) → ((a : A) → P a) → (rs : List (Row A)) → Each P rs
each_any P h [] = tt
each_any P h (r ∷ rs) = (h r.gives, each_any P h rs)

pub each_append : {A : Type 0} (P : A → Type 0) (rs qs : List (Row A)) → Each P rs → Each P qs → Each P (rs ++ qs)
each_append P [] qs g h = h
each_append P (r ∷ rs) qs g h = (g.0, each_append P rs qs g.1 h)

pub each_giving : {A : Type 0} (P : A → Type 0) (g : Answer → A) (rs : List (Row Answer)) → Each (λ a. P (g a)) rs → Each P (giving g rs)
each_giving P g [] h = tt
each_giving P g (r ∷ rs) h = (h.0, each_giving P g rs h.1)

pub each_within : {A : Type 0} (P : Beside A → Type 0) (work : List ℕ) (rs : List (Row A)) → Each (λ a. P (beside a work)) rs → Each P (within work rs)
each_within P work [] h = tt
each_within P work (r ∷ rs) h = (h.0, each_within P work rs h.1)

each_later : {A : Type 0} (P : A → Type 0) (g : Answer → List ℕ → A) (k : ℕ) (work : List ℕ) (rs : List (Row Answer)) → Each (λ a. P (g a (cleared k work))) rs
    → Each P (later g k work rs)
each_later P g k work [] h = tt
each_later P g k work (r ∷ rs) h = (h.0, each_later P g k work rs h.1)

-- of the gate, where P goes by the answer alone
pub each_gate : {A : Type 0} (P : A → Type 0) (g : Answer → List ℕ → A) (Q : Answer → Type 0) → ((a : Answer) (w : List ℕ) → Q a → P (g a w)) → Q SizeMismatch
    → Q InvalidValue
    → Q WorkTooShort
    → (misfit invalid short : Type 0) (after : List (Row Answer)) (k : ℕ) (work : List ℕ)
    → Each Q after
    → Each P (gate g misfit invalid short after k work)
each_gate {A} P g Q f a b c misfit invalid short after k work h =
    (f SizeMismatch work a, (f InvalidValue work b, (f WorkTooShort work c, each_later P g k work after (turn after h))))
  where
    turn : (rs : List (Row Answer)) → Each Q rs → Each (λ a. P (g a (cleared k work))) rs
    turn [] h = tt
    turn (r ∷ rs) h = (f r.gives (cleared k work) h.0, turn rs h.1)

pub none_append : {A : Type 0} (rs qs : List (Row A)) → None (rs ++ qs) → None rs × None qs
none_append [] qs n = (tt, n)
none_append (r ∷ rs) qs n = let w = none_append rs qs n.1 in ((n.0, w.0), w.1)

pub append_none : {A : Type 0} (rs qs : List (Row A)) → None rs → None qs → None (rs ++ qs)
append_none [] qs n m = m
append_none (r ∷ rs) qs n m = (n.0, append_none rs qs n.1 m)

pub none_within : {A : Type 0} (work : List ℕ) (rs : List (Row A)) → None (within work rs) → None rs
none_within work [] n = tt
none_within work (r ∷ rs) n = (n.0, none_within work rs n.1)

pub within_none : {A : Type 0} (work : List ℕ) (rs : List (Row A)) → None rs → None (within work rs)
within_none work [] n = tt
within_none work (r ∷ rs) n = (n.0, within_none work rs n.1)

-- refusals ---------------------------------------------------------------------------------------------------------

-- a refusal is not Done
pub not_done : (a : Answer) → 1 ≤ number_of a → a ≡ Done → ⊥
not_done a h e = omega (arith, h, ap number_of e)

-- none of the tests answers Done, which is computed
abbrev pub refuses : List (Row Answer) → Bool
refuses [] = true
refuses (r ∷ rs) = leb 1 (number_of r.gives) && refuses rs

pub each_refuses : (rs : List (Row Answer)) → refuses rs ≡ true → Each (λ a. a ≡ Done → ⊥) rs
each_refuses [] e = tt
each_refuses (r ∷ rs) e = let w = both (leb 1 (number_of r.gives)) (refuses rs) e in (not_done r.gives (leb-true 1 (number_of r.gives) w.0), each_refuses rs w.1)
  where
    both : (a b : Bool) → (a && b) ≡ true → (a ≡ true) × (b ≡ true)
    both true b e = (refl, e)
    both false b e = let z : ◌≡◌ {A = ℕ} 0 1 = cc in let z' : ⊥ = omega (arith, z) in absurd z'
