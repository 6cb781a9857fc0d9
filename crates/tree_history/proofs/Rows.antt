-- What holds of every row that applies, and of the last, holds of the outcome.
use mathlib.Core.Path.{subst⁻¹}
use mathlib.Core.List.{List, [], ◌∷◌}
use mathlib.Core.Logic.{◌⊎◌, inl, inr}
use Prim.Native.Nat.{ℕ, ◌<◌}
use lib.ListN.{length}
use Rattle.order.specs.First.{Row, First}
use Rattle.order.specs.Given.{None}
use Rattle.order.specs.Beside.{Beside, beside, within, Promised}
use Rattle.order.specs.Answer.{Answer}
use Rattle.order.specs.Answer.{SizeMismatch, InvalidValue, WorkTooShort, BrokenTree}
use Rattle.tree_test.specs.Gate.{entry_gate}
use Rattle.tree_sound.specs.Tables.{Tables, dirs, files, OutsideIn, rooms_in, SoundIn}
use Rattle.order.specs.Giving.{giving}
use Rattle.tree_promises.specs.declared.Kind.{Kind}
use Rattle.tree_promises.specs.Kinds.{kind_room}
use Rattle.tree_promises.specs.Promise.{worked, TreePromise, OpensPromise}
use Rattle.tree_history.specs.Whole.{Lent, Whole}
use Rattle.tree_history.proofs.Stable.{sound_stable}

-- P holds of what each row gives, where it applies
abbrev pub Each : {A : Type 0} → (A → Type 0) → List (Row A) → Type 0
Each P [] = Unit {0}
Each P (r ∷ rs) = (r.when → P r.gives) × Each P rs

pub of_first : {A : Type 0} (P : A → Type 0) (rs : List (Row A)) (d o : A) → Each P rs → (None rs → P d) → First rs d o → P o
of_first P [] d o g l p = subst⁻¹ P p (l tt)
of_first P (r ∷ rs) d o g l (inl p) = subst⁻¹ P p.1 (g.0 p.0)
of_first P (r ∷ rs) d o g l (inr p) = of_first P rs d o g.1 (λ n. l (p.0, n)) p.1

-- the same of a call's own rows, beside the work list
pub of_within : {A : Type 0} (P : A → Type 0) (work : List ℕ) (own : List (Row A)) (d : A) (o : Beside A) → Each P own → (None own → P d)
    → First (within work own) (beside d work) o → P o.given
of_within P work [] d o g l p = subst⁻¹ (λ (x : Beside _). P x.given) p (l tt)
of_within P work (r ∷ rs) d o g l (inl p) = subst⁻¹ (λ (x : Beside _). P x.given) p.1 (g.0 p.0)
of_within P work (r ∷ rs) d o g l (inr p) = of_within P work rs d o g.1 (λ n. l (p.0, n)) p.1

-- rows that say the answer alone
pub each_giving : {A : Type 0} (P : A → Type 0) (refuse : Answer → A) (tests : List (Row Answer)) → Each (λ a. P (refuse a)) tests → Each P (giving refuse tests)
each_giving P refuse [] h = tt
each_giving P refuse (r ∷ rs) h = (h.0, each_giving P refuse rs h.1)

pub none_giving : {A : Type 0} (refuse : Answer → A) (tests : List (Row Answer)) → None (giving refuse tests) → None tests
none_giving refuse [] n = tt
none_giving refuse (r ∷ rs) n = (n.0, none_giving refuse rs n.1)

-- whole promises ---------------------------------------------------------------------------------------------------------------------------------------

-- the rows of sizes, work list and soundness; short is when the work list or the open records are too short
abbrev pub front : {A : Type 0} → (Answer → A) → Tables → Type 0 → List ℕ → List (Row (Beside A))
front refuse s short work =
    entry_gate (λ a w. beside (refuse a) w) s
    (OutsideIn s) short work

-- P holds of what those rows give
pub record Gate {A : Type 0} (P : A → Type 0) (refuse : Answer → A) (s : Tables) : Type 0 where
  pub misfit : P (refuse SizeMismatch)
  pub outside : P (refuse InvalidValue)
  pub short : P (refuse WorkTooShort)
  pub broken : (SoundIn s → ⊥) → P (refuse BrokenTree)

module _ {A : Type 0} (P : A → Type 0) (refuse : Answer → A) (s : Tables) (G : Gate P refuse s) (work : List ℕ) (own : List (Row A)) (done : A)
    (o : Beside A) (g : Each P own) (f : (Lent s → Whole s) → None own → P done) where
  -- where the first rows pass, the tables are sound
  of_call : (short : Type 0) → Promised (front refuse s short work) (worked s work) own done o → P o.given
  of_call short (inl p) = subst⁻¹ (λ (x : Beside A). P x.given) p.1 G.misfit
  of_call short (inr (m, inl p)) = subst⁻¹ (λ (x : Beside A). P x.given) p.1 G.outside
  of_call short (inr (m, inr (i, inl p))) = subst⁻¹ (λ (x : Beside A). P x.given) p.1 G.short
  of_call short (inr (m, inr (i, inr (w, inl p)))) = subst⁻¹ (λ (x : Beside A). P x.given) p.1 (G.broken p.0)
  of_call short (inr (m, inr (i, inr (w, inr (u, p))))) =
      of_within P (worked s work) own done o g (f (λ l. record { lent = l; fits = m; inside = i; sound = sound_stable (dirs s) (files s) u })) p

  -- a call that takes no open records, and one that takes those of a kind's table
  pub of_tree : TreePromise refuse s work own done o → P o.given
  unfolding TreePromise
  of_tree p = of_call (length work < rooms_in s) p

  pub of_opens : (kind : Kind) (opens : List ℕ) → OpensPromise kind refuse s opens work own done o → P o.given
  unfolding OpensPromise
  of_opens kind opens p = of_call ((length work < rooms_in s) ⊎ (length opens < kind_room kind s)) p
