-- The steps of RULES 6.2 to 6.5 on one table, as writes to its fields. m is the table's fields before the step.
use Rattle.std.specs.Prelude.{List, [], ◌∷◌, ◌++◌, Bool, true, false, ℕ, zero, suc, ◌+◌, ◌-◌, ◌/◌, eqb, length}
use Rattle.links.specs.Change.{pick, before}
use Rattle.tree_table.specs.Field.{Write, write}
use Rattle.tree_table.specs.View.{View, parent, place, bucket_of, children_of, removed_of}

-- the entry that make uses: the first removed one, else the count
abbrev pub taken : View → ℕ
taken v = pick (eqb (v.coll 0) 0) v.count (v.coll 0)

-- and its writes to entry 0: the count grows by 1, or the next removed entry is the first (t says that none is removed)
abbrev pub take_writes : Bool → (ℕ → ℕ → ℕ) → List Write
take_writes true m = write 0 1 (m 0 1 + 1) ∷ []
take_writes false m = write 0 0 (m (m 0 0) 0) ∷ []

-- entry x gets its key, and stands before `next` in its parent's list and before `first` in its bucket
abbrev pub enter_writes : ℕ → (k0 k1 k2 k3 k4 : ℕ) → ℕ → ℕ → List Write
enter_writes x k0 k1 k2 k3 k4 next first =
    write x 1 k0 ∷ write x 2 k1 ∷ write x 3 k2 ∷ write x 4 k3 ∷ write x 5 k4 ∷ write x 6 next ∷ write x 0 first ∷ []

-- the entry before x in its bucket and in its parent's list, 0 for none
abbrev pub bucket_before : View → ℕ → ℕ
bucket_before v x = before x 0 (bucket_of v (place v (v.key x)))

abbrev pub child_before : View → ℕ → ℕ
child_before v x = before x 0 (children_of v (parent (v.key x)))

-- x leaves a list through field f: what follows it is written to the entry p before it. (t says that x is the first: then the list's head is written instead)
abbrev pub cut_writes : Bool → ℕ → ℕ → ℕ → List Write
cut_writes true p f new = []
cut_writes false p f new = write p f new ∷ []

-- and then, where x is the first, what follows it is written to field f of entry e, where the list's head stands
abbrev pub head_writes : Bool → ℕ → ℕ → ℕ → List Write
head_writes true e f new = write e f new ∷ []
head_writes false e f new = []

-- n fields from f on of entry 0, over those of entry x
abbrev pub copy_writes : ℕ → ℕ → (ℕ → ℕ → ℕ) → ℕ → List Write
copy_writes zero f m x = []
copy_writes (suc n) f m x = write x f (m 0 f) ∷ copy_writes n (suc f) m x

-- x is given up, in a table of width w: entry 0's whole width over it, then x is the first removed entry
abbrev pub give_writes : ℕ → (ℕ → ℕ → ℕ) → ℕ → List Write
give_writes w m x = copy_writes (w / 4 - 1) 1 m x ++ (write x 0 (m 0 0) ∷ write 0 0 x ∷ [])

-- the entries that make can still use
abbrev pub free_of : View → ℕ
free_of v = v.maximum - v.count + length (removed_of v)
