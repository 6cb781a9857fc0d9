-- The names that a new entry may have (RULES 5.3). Only make and rename ask for it, of the name that they are given: an entry that is there may have any
-- name.
use Rattle.std.specs.Prelude.{List, Bool, true, not, ◌&&◌, ℕ, zero, suc, eqb, get_or}

-- a nonzero byte b that follows a zero byte a
abbrev pub torn : (a b : ℕ) → Bool
torn a b = eqb a 0 && not (eqb b 0)

-- among the first n + 1 bytes no nonzero one follows a zero one
unfoldable pub padded : ℕ → List ℕ → Bool
padded zero name = true
padded (suc n) name = padded n name && not (torn (get_or name n 0) (get_or name (suc n) 0))

-- of the sixteen bytes the first is not zero, and no nonzero one follows a zero one
unfoldable pub legal : List ℕ → Bool
legal name = not (eqb (get_or name 0 0) 0) && padded 15 name
