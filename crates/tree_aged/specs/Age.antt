-- Which of two entries of a table is the newer one, as far as the lists tell (RULES 5.8). An entry is put before all others of its bucket and of its
-- parent's list at once, so whatever a link of it names was put there earlier.
use Rattle.std.specs.Prelude.{◌≡◌, ◌⊎◌, ℕ, ◌<◌}
use Rattle.tree_table.specs.View.{View, LiveIn}

-- y is what entry x names, in its collision field or in its next field
abbrev pub Names : (coll next : ℕ → ℕ) (x y : ℕ) → Type 0
Names coll next x y = (0 < y) × ((coll x ≡ y) ⊎ (next x ≡ y))

-- links lead from x to y, one or more: x is newer than y
pub data Newer (coll next : ℕ → ℕ) : ℕ → ℕ → Type 0 where
  one : (x y : ℕ) → Names coll next x y → Newer coll next x y
  more : (x y z : ℕ) → Names coll next x y → Newer coll next y z → Newer coll next x z

-- links lead from x into a circle, an entry that is newer than itself; or x lies in it
pub record Lost (coll next : ℕ → ℕ) (x : ℕ) : Type 0 where
  pub entry : ℕ
  pub leads : (x ≡ entry) ⊎ Newer coll next x entry
  pub circle : Newer coll next entry entry

-- the live entries of a table from which links lead into a circle
abbrev pub LostIn : View → ℕ → Type 0
LostIn v x = LiveIn v x × Lost v.coll v.next x

-- no live entry of a table is newer than itself
abbrev pub NoCircle : View → Type 0
NoCircle v = (x : ℕ) → LiveIn v x → Newer v.coll v.next x x → ⊥

-- the orders of the lists are those of one past, in each table by itself; and nothing is older than the root, so it names none in its bucket
pub record Aged (D F : View) : Type 0 where
  pub of_dirs : NoCircle D
  pub of_files : NoCircle F
  pub root_last : D.coll 1 ≡ 0
