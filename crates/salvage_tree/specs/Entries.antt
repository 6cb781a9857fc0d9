-- The live entries of one entry table of any bytes, by its count and its removed list alone: no bucket is looked at, no list of children, and no other table.
-- w is the width of an entry, t the table, x an entry.
use Rattle.std.specs.Prelude.{List, [], ◌∷◌, Bool, cond, not, ◌&&◌, ℕ, zero, suc, ◌-◌, ◌/◌, leb, ltb, length}
use Rattle.tree_table.specs.Field.{field, collision_field, count_field}
use Rattle.tree_table.specs.Chain.{member}

-- the entries that are looked at lie below count and room
unfoldable pub bound : (w : ℕ) (t : List ℕ) → ℕ
bound w t = cond (leb (field w t 0 count_field) (length t / w)) (field w t 0 count_field) (length t / w)

-- one can go on to entry x: it is not 0, lies below n, and was not met before
unfoldable pub goes : (n : ℕ) (met : List ℕ) (x : ℕ) → Bool
goes n met x = ltb 0 x && (ltb x n && not (member x met))

-- what was met in the end by following `next` from x, where `met` were met before: it ends on 0, at n, and on a ring; at most k entries more
abbrev pub met_from : (k : ℕ) (next : ℕ → ℕ) (n : ℕ) (met : List ℕ) (x : ℕ) → List ℕ
met_from zero next n met x = met
met_from (suc k) next n met x = cond (goes n met x) (met_from k next n (x ∷ met) (next x)) met

-- an entry's collision field; of entry 0, the first removed entry
abbrev pub collision : (w : ℕ) (t : List ℕ) (x : ℕ) → ℕ
collision w t x = field w t x collision_field

-- the entries that the removed list names, as far as it can be followed
unfoldable pub gone : (w : ℕ) (t : List ℕ) → List ℕ
gone w t = met_from (bound w t) (collision w t) (bound w t) [] (collision w t 0)

-- of k entries from x on those that are not in a list
abbrev pub others : (k x : ℕ) (g : List ℕ) → List ℕ
others zero x g = []
others (suc k) x g = cond (member x g) (others k (suc x) g) (x ∷ others k (suc x) g)

-- the live entries, in the order of their inodes
unfoldable pub entries : (w : ℕ) (t : List ℕ) → List ℕ
entries w t = others (bound w t - 1) 1 (gone w t)
