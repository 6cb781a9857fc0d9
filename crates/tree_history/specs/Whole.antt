-- What a call leaves of the entry tables.
use Rattle.std.specs.Prelude.{◌≡◌, length}
use Rattle.words.specs.Word.{AreBytes}
use Rattle.tree_sound.specs.Tables.{Tables, MisfitIn, OutsideIn, SoundIn}

-- four tables as they can be lent: bytes
pub record Lent (s : Tables) : Type 0 where
  pub dir_hash : AreBytes s.dir_hash
  pub dir_table : AreBytes s.dir_table
  pub file_hash : AreBytes s.file_hash
  pub file_table : AreBytes s.file_table

-- four tables of bytes whose sizes are within the bounds of RULES 1.2, and that are sound
pub record Whole (s : Tables) : Type 0 where
  pub lent : Lent s
  pub fits : MisfitIn s → ⊥
  pub inside : OutsideIn s → ⊥
  pub sound : SoundIn s

-- the tables s' are as long as the tables s
pub record SameSizes (s s' : Tables) : Type 0 where
  pub dir_hash : length s'.dir_hash ≡ length s.dir_hash
  pub dir_table : length s'.dir_table ≡ length s.dir_table
  pub file_hash : length s'.file_hash ≡ length s.file_hash
  pub file_table : length s'.file_table ≡ length s.file_table
