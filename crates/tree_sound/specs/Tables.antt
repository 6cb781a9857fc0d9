-- The four tables that every tree call is lent, under one name.
use Rattle.std.specs.Prelude.{List, ℕ}
use Rattle.tree_table.specs.View.{View, dir_view, file_view}
use Rattle.tree_sound.specs.Sizes.{rooms, Misfit, Outside}
use Rattle.tree_sound.specs.Sound.{Sound}

-- the directories' hash and entries, the files' hash and entries
pub record Tables : Type 0 where
  pub dir_hash : List ℕ
  pub dir_table : List ℕ
  pub file_hash : List ℕ
  pub file_table : List ℕ

abbrev pub tables : (dir_hash dir_table file_hash file_table : List ℕ) → Tables
tables dh d fh f = record { dir_hash = dh; dir_table = d; file_hash = fh; file_table = f }

-- the directories and the files
abbrev pub dirs : Tables → View
dirs s = dir_view s.dir_hash s.dir_table

abbrev pub files : Tables → View
files s = file_view s.dir_table s.file_hash s.file_table

-- one of the four does not fit; one has a size out of the bounds of RULES 1.2; the places of the work list that they name; they are sound
abbrev pub MisfitIn : Tables → Type 0
MisfitIn s = Misfit s.dir_hash s.dir_table s.file_hash s.file_table

abbrev pub OutsideIn : Tables → Type 0
OutsideIn s = Outside s.dir_hash s.dir_table s.file_hash s.file_table

abbrev pub rooms_in : Tables → ℕ
rooms_in s = rooms s.dir_table s.file_table

abbrev pub SoundIn : Tables → Type 0
SoundIn s = Sound (dirs s) (files s)
