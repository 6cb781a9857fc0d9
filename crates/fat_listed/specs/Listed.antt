-- What read_blocks and write_blocks promise, over data of d bytes, blocks of l bytes, and a list of blocks that is lent to them: n is d / l, byte k of
-- what is listed lies in the block at place k / l.
use Rattle.std.specs.Prelude.{◌≡◌, List, [], ◌∷◌, ◌++◌, ◌⊎◌, ℕ, ◌+◌, ◌*◌, ◌/◌, ◌≤◌, ◌<◌, length, get_or}
use Rattle.order.specs.First.{Row, row, First}
use Rattle.order.specs.Giving.{giving}
use Rattle.order.specs.Answer.{Answer}
use Rattle.order.specs.Answer.{Done, SizeMismatch, InvalidValue, OutOfBound}
use Rattle.fat_node.specs.Entry.{Bytes}
use Rattle.fat_test.specs.Gate.{retired}
use Rattle.fat_promises.specs.Blocks.{bytes_at, written}
use Rattle.fat_promises.specs.Calls.{Carry, carry_gives}

-- the data are not n blocks
abbrev pub Uneven : ℕ → ℕ → Type 0
Uneven d l = d ≡ d / l * l → ⊥

-- n is not from 1 to 1,000,000, or l not from 1 to 65,536
abbrev pub Unfit : ℕ → ℕ → Type 0
Unfit d l = (d / l < 1) ⊎ (1_000_000 < d / l) ⊎ (l < 1) ⊎ (65536 < l)

-- some byte of those from pos on lies in a block at or over n
abbrev pub Foreign : ℕ → List ℕ → ℕ → ℕ → ℕ → Type 0
Foreign n list l pos many = (k : ℕ) × (pos ≤ k) × (k < pos + many) × (n ≤ get_or list (k / l) 0)

-- the sizes
abbrev pub listed_sizes : ℕ → ℕ → List (Row Answer)
listed_sizes d l = row (Uneven d l) SizeMismatch ∷ row (Unfit d l) InvalidValue ∷ []

-- their own tests, for many bytes from pos on. Position plus length is a number with no bound; of the list's blocks only those that the bytes lie in are
-- judged
abbrev pub listed_own : ℕ → ℕ → List ℕ → ℕ → ℕ → List (Row Answer)
listed_own d l list pos many = row (length list * l < pos + many) OutOfBound ∷ row (Foreign (d / l) list l pos many) InvalidValue ∷ []

-- the tests of read_blocks, in order
abbrev pub listed_tests : ℕ → ℕ → List ℕ → ℕ → ℕ → List (Row Answer)
listed_tests d l list pos many = listed_sizes d l ++ listed_own d l list pos many

-- those of write_blocks: a block length that is not in use comes after the sizes, since no table is lent
abbrev pub write_tests : ℕ → ℕ → List ℕ → ℕ → ℕ → List (Row Answer)
write_tests d l list pos many = listed_sizes d l ++ (retired l ++ listed_own d l list pos many)

-- Done: the buffer has the bytes
abbrev pub ReadBlocksPromise : Bytes → ℕ → List ℕ → ℕ → Bytes → Carry → Type 0
ReadBlocksPromise d l list pos buf o =
    First (giving (λ a. carry_gives a buf) (listed_tests (length d) l list pos (length buf))) (carry_gives Done (bytes_at (length buf) d l list pos)) o

-- Done: the buffer's bytes are written into the data one after the other, so that of two for one place the later stays
abbrev pub WriteBlocksPromise : Bytes → ℕ → List ℕ → ℕ → Bytes → Carry → Type 0
WriteBlocksPromise d l list pos buf o =
    First (giving (λ a. carry_gives a d) (write_tests (length d) l list pos (length buf))) (carry_gives Done (written buf d l list pos)) o
