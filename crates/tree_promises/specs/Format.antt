-- What format promises: its rows, and the tables that it makes, with maxima dm of the directories and fm of the files. It takes no work list and no open
-- records.
use Rattle.std.specs.Prelude.{List, [], ◌∷◌, ◌⊎◌, ℕ, ◌*◌, ◌%◌, ◌<◌, length, replicate}
use Rattle.order.specs.First.{Row, row, First}
use Rattle.order.specs.Gate.{cleared}
use Rattle.order.specs.Answer.{Done, SizeMismatch, InvalidValue}
use Rattle.tree_key.specs.Hash.{hash_of}
use Rattle.tree_table.specs.Field.{write, wrote, collision_field, count_field, maximum_field}
use Rattle.tree_sound.specs.Sizes.{buckets}
use Rattle.tree_sound.specs.Tables.{Tables, tables, MisfitIn, OutsideIn}
use Rattle.tree_promises.specs.Calls.{Carry, carry_gives}

-- a table that does not fit, or is shorter than its maximum of entries
abbrev pub FormatMisfit : (s : Tables) (dm fm : ℕ) → Type 0
FormatMisfit s dm fm =
    MisfitIn s ⊎ (length s.dir_table < dm * 40) ⊎ (length s.file_table < fm * 48)

-- a size out of the bounds of RULES 1.2, or a maximum that is not from 2 (directories) or 1 (files) to 65,536
abbrev pub FormatOutside : (s : Tables) (dm fm : ℕ) → Type 0
FormatOutside s dm fm =
    OutsideIn s ⊎ (dm < 2) ⊎ (65536 < dm) ⊎ (fm < 1) ⊎ (65536 < fm)

abbrev pub format_rows : (s : Tables) (dm fm : ℕ) → List (Row Carry)
format_rows s dm fm =
    row (FormatMisfit s dm fm) (carry_gives SizeMismatch s)
    ∷ row (FormatOutside s dm fm) (carry_gives InvalidValue s)
    ∷ []

-- both hashes are 0 but for the root's bucket; entry 0 is count, maximum and zeros; the root's entry is all zero; the rest of the tables stays
abbrev pub formatted : (s : Tables) (dm fm : ℕ) → Tables
formatted s dm fm =
    tables
    (wrote 4 (replicate (length s.dir_hash) 0) (write (hash_of (0 ∷ 0 ∷ 0 ∷ 0 ∷ 0 ∷ []) % buckets s.dir_hash) collision_field 1 ∷ []))
    (wrote 40 (cleared 80 s.dir_table) (write 0 count_field 2 ∷ write 0 maximum_field dm ∷ []))
    (replicate (length s.file_hash) 0)
    (wrote 48 (cleared 48 s.file_table) (write 0 count_field 1 ∷ write 0 maximum_field fm ∷ []))

abbrev pub FormatPromise : (s : Tables) (dm fm : ℕ) → Carry → Type 0
FormatPromise s dm fm o = First (format_rows s dm fm) (carry_gives Done (formatted s dm fm)) o
