-- The files of four tables, each with its path and its record; and damage that leaves these as they were. s are sound tables, t tables of any bytes.
use Rattle.std.specs.Prelude.{◌≡◌, List, [], ◌∷◌, cond, ◌↔◌, ℕ, eqb, drop}
use Rattle.links.specs.Links.{◌∈◌, Distinct}
use Rattle.tree_table.specs.Field.{field, carried_field}
use Rattle.tree_table.specs.View.{View, LiveIn, removed_of}
use Rattle.tree_sound.specs.Sound.{up}
use Rattle.tree_sound.specs.Tables.{Tables, dirs, files}
use Rattle.tree_promises.specs.Has.{above}
use Rattle.salvage_tree.specs.Entries.{entries}
use Rattle.salvage_way.specs.Way.{way}

-- the name in a key: the four words behind the parent
abbrev pub name : (key : List ℕ) → List ℕ
name k = drop 1 k

-- the names of the directories of a way up, from the top down, in front of those below them; the root, inode 1, has none
abbrev pub down : (key : ℕ → List ℕ) (way : List ℕ) (below : List (List ℕ)) → List (List ℕ)
down key [] below = below
down key (x ∷ xs) below = cond (eqb x 1) below (down key xs (name (key x) ∷ below))

-- the path of file y in sound tables: the names from the root down, its own the last
abbrev pub path_of : (s : Tables) (y : ℕ) → List (List ℕ)
path_of s y = down (dirs s).key (above (dirs s) (up (files s) y)) (name ((files s).key y) ∷ [])

-- the same as it is put together of tables of any bytes: by the way that the call `way` lists from the parent that the file names
abbrev pub path_in : (t : Tables) (y : ℕ) → List (List ℕ)
path_in t y = down (dirs t).key (way t.dir_table (up (files t) y)) (name ((files t).key y) ∷ [])

-- the five words that file y carries, its record
abbrev pub record_in : (t : Tables) (y : ℕ) → List ℕ
record_in t y =
    field 48 t.file_table y (carried_field 0)
    ∷ field 48 t.file_table y (carried_field 1)
    ∷ field 48 t.file_table y (carried_field 2)
    ∷ field 48 t.file_table y (carried_field 3)
    ∷ field 48 t.file_table y (carried_field 4)
    ∷ []

-- the entries of v' are as those of v in their number, the count, the list of the removed ones, and each live one's key; buckets, the collision fields of live
-- entries, nexts and heads of lists of children are any
pub record Spared (v v' : View) : Type 0 where
  pub room : v'.room ≡ v.room
  pub count : v'.count ≡ v.count
  pub first : v'.coll 0 ≡ v.coll 0
  pub removed : (y : ℕ) → y ∈ removed_of v → v'.coll y ≡ v.coll y
  pub keys : (y : ℕ) → LiveIn v y → v'.key y ≡ v.key y

-- nothing of s is damaged in t but hash tables, collision fields of live entries, and lists of children
pub record Damaged (s t : Tables) : Type 0 where
  pub dir_entries : Spared (dirs s) (dirs t)
  pub file_entries : Spared (files s) (files t)
  pub records : (y : ℕ) → LiveIn (files s) y → record_in t y ≡ record_in s y

-- what the calls list of t is what s has: the live directories and the live files, each once; and of each file the path, by a way that leads to the root, and
-- the record
pub record Lifted (s t : Tables) : Type 0 where
  pub dirs_listed : (y : ℕ) → y ∈ entries 40 t.dir_table ↔ LiveIn (dirs s) y
  pub dirs_once : Distinct (entries 40 t.dir_table)
  pub files_listed : (y : ℕ) → y ∈ entries 48 t.file_table ↔ LiveIn (files s) y
  pub files_once : Distinct (entries 48 t.file_table)
  pub paths : (y : ℕ) → y ∈ entries 48 t.file_table → path_in t y ≡ path_of s y
  pub rooted : (y : ℕ) → y ∈ entries 48 t.file_table → 1 ∈ way t.dir_table (up (files t) y)
  pub records : (y : ℕ) → y ∈ entries 48 t.file_table → record_in t y ≡ record_in s y
