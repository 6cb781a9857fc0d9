-- The record of an inode's opens, one u32: the top bit says that a writer holds it, the low 31 bits count its readers. Any u32 is a record.
use Rattle.std.specs.Prelude.{ℕ, ◌+◌, ◌/◌, ◌%◌}

abbrev pub readers : (r : ℕ) → ℕ
readers r = r % 2147483648

-- 1 where a writer holds it, else 0
abbrev pub writer : (r : ℕ) → ℕ
writer r = r / 2147483648

-- readers and writer together, which the limit is about
abbrev pub total : (r : ℕ) → ℕ
total r = readers r + writer r

-- the record of a writer and no readers, which make writes
abbrev pub writer_alone : ℕ
writer_alone = 2147483648
