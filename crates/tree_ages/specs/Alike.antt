-- Two sets of entry tables that are equal in every field that the rules read.
use Rattle.std.specs.Prelude.{◌≡◌, List, ℕ, ◌+◌, ◌*◌, ◌≤◌, length}
use Rattle.links.specs.Links.{◌∈◌}
use Rattle.tree_table.specs.Field.{field, collision_field, count_field, maximum_field}
use Rattle.tree_table.specs.View.{removed_of}
use Rattle.tree_sound.specs.Tables.{Tables}
use Rattle.tree_promises.specs.Inner.Ready.{LiveAt, alone}

-- one table t of width w with its hash h, and another: the hashes; entry 0's count, maximum and first removed; a removed entry's collision; all of a live
-- entry. Which entries are removed and which are live is read from the first
pub record SameTable (w : ℕ) (h t h' t' : List ℕ) : Type 0 where
  pub hash : h' ≡ h
  pub room : length t' ≡ length t
  pub count : field w t' 0 count_field ≡ field w t 0 count_field
  pub maximum : field w t' 0 maximum_field ≡ field w t 0 maximum_field
  pub first : field w t' 0 collision_field ≡ field w t 0 collision_field
  pub removed : (y : ℕ) → y ∈ removed_of (alone w t) → field w t' y collision_field ≡ field w t y collision_field
  pub live : (y g : ℕ) → LiveAt w t y → 4 * g + 4 ≤ w → field w t' y g ≡ field w t y g

pub record Alike (s s' : Tables) : Type 0 where
  pub of_dirs : SameTable 40 s.dir_hash s.dir_table s'.dir_hash s'.dir_table
  pub of_files : SameTable 48 s.file_hash s.file_table s'.file_hash s'.file_table
