-- What a change of a threaded list is said with: a function with another value at one place, the list as a walk finds it, and the entry before another.
use Rattle.std.specs.Prelude.{List, [], ◌∷◌, Bool, true, false, ℕ, zero, suc, eqb}

-- the first of two where the test passes, else the second
abbrev pub pick : {A : Type 0} → Bool → A → A → A
pick true a b = a
pick false a b = b

-- f with v at x
abbrev pub upd : {A : Type 0} → (ℕ → A) → ℕ → A → ℕ → A
upd f x v y = pick (eqb y x) v (f y)

-- the list with the first x taken out
abbrev pub without : ℕ → List ℕ → List ℕ
without x [] = []
without x (y ∷ ys) = pick (eqb y x) ys (y ∷ without x ys)

-- the list from x, as far as the first number goes
abbrev pub walk : (ℕ → ℕ) → ℕ → ℕ → List ℕ
walk next zero x = []
walk next (suc k) zero = []
walk next (suc k) (suc x) = suc x ∷ walk next k (next (suc x))

-- the entry before x in a list whose first follows q
abbrev pub before : ℕ → ℕ → List ℕ → ℕ
before x q [] = q
before x q (a ∷ xs) = pick (eqb a x) q (before x a xs)

-- what an entry is taken out of, afterwards: the first link, and the links. p is the entry before it, 0 for none; new is its own link
abbrev pub cut_head : ℕ → ℕ → ℕ → ℕ
cut_head p new h = pick (eqb p 0) new h

abbrev pub cut_next : (ℕ → ℕ) → ℕ → ℕ → ℕ → ℕ
cut_next next p new = pick (eqb p 0) next (upd next p new)
