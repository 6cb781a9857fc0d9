-- What the two halves of the test promise: the directories by themselves, and the files below them.
use Rattle.std.specs.Prelude.{◌≡◌, List, [], ◌∷◌, Bool, true, false, ℕ, ◌/◌, ◌≤◌, ◌<◌, length}
use Rattle.tree_table.specs.Field.{field}
use Rattle.tree_table.specs.View.{key_at, dir_view, file_view, removed_of}
use Rattle.tree_sound.specs.Sound.{Below, Dirs}
use Rattle.tree_marks.specs.Inner.Marks.{gone, Within}
use Rattle.tree_marks.specs.Inner.Gather.{GoneMarked}

-- the root, by its mark and its entry
pub record RootFits (d : List ℕ) (mark : ℕ) : Type 0 where
  pub here : mark ≡ gone → ⊥
  pub key : key_at (field 40 d) 1 ≡ 0 ∷ 0 ∷ 0 ∷ 0 ∷ 0 ∷ []
  pub next : field 40 d 1 6 ≡ 0

-- the test of the directories; the marks of the removed ones are left
pub record DirsTested (dh d : List ℕ) (work work' : List ℕ) (r : Bool) : Type 0 where
  pub good : r ≡ true → Dirs (dir_view dh d) × GoneMarked (field 40 d 0 1) (removed_of (dir_view dh d)) work'
  pub bad : r ≡ false → Dirs (dir_view dh d) → ⊥
  pub within : Within 0 (length d / 40) work work'

-- the test of the files below directories that passed it
pub record FilesTested (dh d fh f : List ℕ) (r : Bool) : Type 0 where
  pub good : r ≡ true → Below (dir_view dh d) (file_view d fh f) 0
  pub bad : r ≡ false → Below (dir_view dh d) (file_view d fh f) 0 → ⊥

-- what the test asks of the four lengths
pub record Sized (dh d fh f : List ℕ) : Type 0 where
  pub dir_table : 40 ≤ length d
  pub dir_room : length d / 40 ≤ 65536
  pub dir_some : 0 < length dh / 4
  pub dir_buckets : length dh / 4 ≤ 65536
  pub file_table : 48 ≤ length f
  pub file_room : length f / 48 ≤ 65536
  pub file_some : 0 < length fh / 4
  pub file_buckets : length fh / 4 ≤ 65536
