-- The way up by parents from a directory, in a directory table of any bytes, as far as it can be followed.
use Rattle.std.specs.Prelude.{List, [], ◌∷◌, cond, ℕ, zero, suc, eqb}
use Rattle.tree_table.specs.Field.{field}
use Rattle.salvage_tree.specs.Entries.{bound, goes, gone}

-- the parent that directory x names; the root has none, whatever stands in its entry
unfoldable pub parent_of : (t : List ℕ) (x : ℕ) → ℕ
parent_of t x = cond (eqb x 1) 0 (field 40 t x 1)

-- the directories from x on by parents, where `met` were met before: it ends on 0, at n, and on a ring; at most k of them
abbrev pub way_from : (k : ℕ) (t : List ℕ) (n : ℕ) (met : List ℕ) (x : ℕ) → List ℕ
way_from zero t n met x = []
way_from (suc k) t n met x = cond (goes n met x) (x ∷ way_from k t n (x ∷ met) (parent_of t x)) []

-- the way up from directory x: below count and room, and over no removed directory. It leads to the root where the root is its last
unfoldable pub way : (t : List ℕ) (x : ℕ) → List ℕ
way t x = way_from (bound 40 t) t (bound 40 t) (gone 40 t) x
