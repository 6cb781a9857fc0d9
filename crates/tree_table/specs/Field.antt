-- A table of entries of any width, as words: what stands in a field of an entry, and the bytes after some writes.
use Rattle.std.specs.Prelude.{List, [], ◌∷◌, ℕ, zero, suc, ◌+◌, ◌-◌, ◌*◌}
use Rattle.words.specs.Word.{put_word}
use Rattle.tree_table.specs.Chain.{link_at}

-- where field f of an entry of w bytes starts. Field 0 is the collision field, which stands last; the others follow in their order:
-- 1 to 5 the key, 6 next, and of a directory 7 sub_dir, 8 sub_file, 9 padding, of a file 7 to 11 the carried bytes.
-- Of entry 0, field 1 is the count, field 2 the maximum, field 0 the first removed entry. A hash is a table of width 4, with field 0 alone.
abbrev pub start : ℕ → ℕ → ℕ
start w zero = w - 4
start w (suc f) = 4 * f

-- the fields that the steps write, by name
abbrev pub collision_field : ℕ
collision_field = 0

abbrev pub count_field : ℕ
count_field = 1

abbrev pub maximum_field : ℕ
maximum_field = 2

abbrev pub next_field : ℕ
next_field = 6

abbrev pub sub_dir_field : ℕ
sub_dir_field = 7

abbrev pub sub_file_field : ℕ
sub_file_field = 8

abbrev pub padding_field : ℕ
padding_field = 9

-- word i, from 0 on, of the bytes that a file carries
abbrev pub carried_field : ℕ → ℕ
carried_field i = 7 + i

-- field f of entry x in the table t of width w
unfoldable pub field : ℕ → List ℕ → ℕ → ℕ → ℕ
field w t x f = link_at t w (start w f) x

-- a write: its entry, its field, its value
pub record Write : Type 0 where
  pub entry : ℕ
  pub field : ℕ
  pub value : ℕ

abbrev pub write : ℕ → ℕ → ℕ → Write
write x f v = record { entry = x; field = f; value = v }

-- the table after some writes, the first one first
abbrev pub wrote : ℕ → List ℕ → List Write → List ℕ
wrote w t [] = t
wrote w t (a ∷ more) = wrote w (put_word t (a.entry * w + start w a.field) a.value) more
