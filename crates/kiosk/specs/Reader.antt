-- What a reader wants to know of the profile, in the words of the two layers.
use Rattle.std.specs.Prelude.{◌≡◌, true, ◌⊎◌, ℕ, ◌*◌, ◌≤◌, length}
use Rattle.fat_node.specs.Entry.{Bytes}
use Rattle.fat_table.specs.Sound.{File}
use Rattle.fat_table.specs.Chain.{file_at}
use Rattle.tree_table.specs.View.{LiveIn}
use Rattle.tree_sound.specs.Tables.{Tables, dirs, files}
use Rattle.audit_inner.specs.Volume.{record_block, record_size}
use Rattle.audit.specs.Reader.{Clean}
use Rattle.kiosk_inner.specs.Profile.{most_blocks, most_files, live_files, simple, name_of}

-- a volume of n blocks of l bytes is in the profile
pub record InProfile (n : ℕ) (t : Bytes) (l : ℕ) (s : Tables) : Type 0 where
  pub clean : Clean n t l s
  pub small : n ≤ most_blocks
  pub alone : (y : ℕ) → LiveIn (dirs s) y → y ≡ 1
  pub few : live_files s.file_table ≤ most_files
  pub single : (b : ℕ) → File t n b → length (file_at n t b) ≡ 1
  pub names : (y : ℕ) → LiveIn (files s) y → simple (name_of s.file_table y) ≡ true

-- s' has one file more than s: inode y, whose record names block m and this size. The records and the names of the others are as they were, and there is no
-- directory that was not there
pub record Recorded (s s' : Tables) (y m size : ℕ) : Type 0 where
  pub live : LiveIn (files s') y
  pub block : record_block s'.file_table y ≡ m
  pub bytes : record_size s'.file_table y ≡ size
  pub only : (z : ℕ) → LiveIn (files s') z → LiveIn (files s) z ⊎ (z ≡ y)
  pub stays : (z : ℕ) → LiveIn (files s) z → LiveIn (files s') z
  pub fresh : LiveIn (files s) y → ⊥
  pub blocks : (z : ℕ) → LiveIn (files s) z → record_block s'.file_table z ≡ record_block s.file_table z
  pub sizes : (z : ℕ) → LiveIn (files s) z → record_size s'.file_table z ≡ record_size s.file_table z
  pub names : (z : ℕ) → LiveIn (files s) z → name_of s'.file_table z ≡ name_of s.file_table z
  pub dirs : (z : ℕ) → LiveIn (dirs s') z → LiveIn (dirs s) z
