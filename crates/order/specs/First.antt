-- A promise as RULES 2.2 has it: rows in order, and what is given is the first row's that applies, or what Done gives where none does.
use Rattle.std.specs.Prelude.{◌≡◌, List, [], ◌∷◌, ◌⊎◌}

-- when a row applies, and what a call then gives: its answer and every lent buffer afterwards
pub record Row (A : Type 0) : Type 1 where
  pub when : Type 0
  pub gives : A

abbrev pub row : {A : Type 0} → Type 0 → A → Row A
row when gives = record { when = when; gives = gives }

-- o is what the first row that applies gives, or is d where none applies
abbrev pub First : {A : Type 0} → List (Row A) → A → A → Type 0
First [] d o = o ≡ d
First (r ∷ rs) d o = (r.when × (o ≡ r.gives)) ⊎ ((r.when → ⊥) × First rs d o)
