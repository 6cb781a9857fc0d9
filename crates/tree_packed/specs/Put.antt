-- A record put into a packed list: inserted, replaced or, where it is 0, taken out.
use Rattle.std.specs.Prelude.{◌≡◌, List, [], ◌∷◌, ◌++◌, Option, Some, None, ℕ, ◌+◌, ◌-◌, ◌*◌, ◌<◌, eqb, ltb, length, set, take, drop}
use Rattle.links.specs.Change.{pick}
use Rattle.tree_packed.specs.Packed.{rec, below}

-- the record at place j taken out of k: those behind it come down by one record, and the two places that the last of them left keep what stood there,
-- as does every place after them
unfoldable pub taken_out : ℕ → ℕ → List ℕ → List ℕ
taken_out k j l = take (2 * j) l ++ ([] ++ (take (2 * k - 2 * j - 2) (drop (2 * j + 2) l) ++ drop (2 * k - 2) l))

-- a record of x put before the one at place j of k: those from there on go up by one record, and the places after them keep what stood there
unfoldable pub put_in : ℕ → ℕ → ℕ → ℕ → List ℕ → List ℕ
put_in k j x r l = take (2 * j) l ++ ((x ∷ r ∷ []) ++ (take (2 * k - 2 * j) (drop (2 * j) l) ++ drop (2 * k + 2) l))

-- no place is left for a record of x: none is listed, and every pair of places is taken
abbrev pub IsFull : ℕ → List ℕ → ℕ → Type 0
IsFull k l x = (rec k l x ≡ 0) × (length l < 2 * (k + 1))

-- what a put gives: the number of records, or none where the list is full; and the list
pub record Put : Type 0 where
  pub kept : Option ℕ
  pub list : List ℕ

abbrev pub gives : Option ℕ → List ℕ → Put
gives a l = record { kept = a; list = l }

-- the record r of x put into the k records of l
unfoldable pub put_of : ℕ → List ℕ → ℕ → ℕ → Put
put_of k l x r =
    pick (eqb (rec k l x) 0)
    (pick (eqb r 0)
    (gives (Some k) l)
    (pick (ltb (length l) (2 * (k + 1)))
    (gives None l)
    (gives (Some (k + 1)) (put_in k (below k l x) x r l))))
    (pick (eqb r 0)
    (gives (Some (k - 1)) (taken_out k (below k l x) l))
    (gives (Some k) (set l (2 * below k l x + 1) r)))
