-- Worked puts, computed: a list of seven places, of which the odd one is never used.
use mathlib.Core.Path.{◌≡◌, refl}
use mathlib.Core.List.{[], ◌∷◌}
use Rattle.tree_packed.specs.Packed.{rec, below}
use Rattle.tree_packed.specs.Put.{gives, taken_out, put_in, put_of}
use Rattle.std.proofs.Common.{Some, None}

-- the first record, before it a lower one, between them a third
pub first : put_of 0 (9 ∷ 9 ∷ 9 ∷ 9 ∷ 9 ∷ 9 ∷ 9 ∷ []) 5 1 ≡ gives (Some 1) (5 ∷ 1 ∷ 9 ∷ 9 ∷ 9 ∷ 9 ∷ 9 ∷ [])
unfolding put_of put_in taken_out rec below
first = refl

pub before : put_of 1 (5 ∷ 1 ∷ 9 ∷ 9 ∷ 9 ∷ 9 ∷ 9 ∷ []) 3 2 ≡ gives (Some 2) (3 ∷ 2 ∷ 5 ∷ 1 ∷ 9 ∷ 9 ∷ 9 ∷ [])
unfolding put_of put_in taken_out rec below
before = refl

pub between : put_of 2 (3 ∷ 2 ∷ 5 ∷ 1 ∷ 9 ∷ 9 ∷ 9 ∷ []) 4 7 ≡ gives (Some 3) (3 ∷ 2 ∷ 4 ∷ 7 ∷ 5 ∷ 1 ∷ 9 ∷ [])
unfolding put_of put_in taken_out rec below
between = refl

-- a fourth finds no place; one that is listed does
pub full : put_of 3 (3 ∷ 2 ∷ 4 ∷ 7 ∷ 5 ∷ 1 ∷ 9 ∷ []) 6 1 ≡ gives None (3 ∷ 2 ∷ 4 ∷ 7 ∷ 5 ∷ 1 ∷ 9 ∷ [])
unfolding put_of put_in taken_out rec below
full = refl

pub over : put_of 3 (3 ∷ 2 ∷ 4 ∷ 7 ∷ 5 ∷ 1 ∷ 9 ∷ []) 4 8 ≡ gives (Some 3) (3 ∷ 2 ∷ 4 ∷ 8 ∷ 5 ∷ 1 ∷ 9 ∷ [])
unfolding put_of put_in taken_out rec below
over = refl

-- taken out: the last record comes down, and its old places keep what stood there
pub out : put_of 3 (3 ∷ 2 ∷ 4 ∷ 8 ∷ 5 ∷ 1 ∷ 9 ∷ []) 4 0 ≡ gives (Some 2) (3 ∷ 2 ∷ 5 ∷ 1 ∷ 5 ∷ 1 ∷ 9 ∷ [])
unfolding put_of put_in taken_out rec below
out = refl

-- the last taken out: no place changes
pub last : put_of 2 (3 ∷ 2 ∷ 5 ∷ 1 ∷ 5 ∷ 1 ∷ 9 ∷ []) 5 0 ≡ gives (Some 1) (3 ∷ 2 ∷ 5 ∷ 1 ∷ 5 ∷ 1 ∷ 9 ∷ [])
unfolding put_of put_in taken_out rec below
last = refl
