-- What each call on files promises. Its tests are its own refusals, in the order of RULES 2.2, decided where sizes, work list and soundness have passed; a
-- refusal changes nothing. May.. says by name what stands where no test applies, ..Done what Done gives, ..Sound both of a sound table, and ..Promise the
-- whole. n is the number of blocks, t the table, d the length of the data or the data, l the block length, b the given first block.
use Rattle.std.specs.Prelude.{◌≡◌, List, [], ◌∷◌, ◌++◌, ℕ, ◌+◌, ◌*◌, ◌≤◌, ◌<◌, length, drop}
use Rattle.order.specs.First.{Row, row, First}
use Rattle.order.specs.Giving.{giving}
use Rattle.order.specs.Answer.{Answer}
use Rattle.order.specs.Answer.{Done, InvalidValue, NotAFile, NoSpace, OutOfBound, ListTooShort}
use Rattle.fat_node.specs.Entry.{Bytes}
use Rattle.fat_node.specs.Sizes.{blocks}
use Rattle.fat_table.specs.Sound.{File}
use Rattle.fat_table.specs.Chain.{total, free_at, file_at}
use Rattle.fat_table.specs.Steps.{created, created_at, resized, deleted}
use Rattle.fat_promises.specs.Blocks.{blocks_of, bytes_at, written}
use Rattle.fat_promises.specs.Promise.{Beside, Promise, ChangePromise}

-- create -------------------------------------------------------------------------------------------------------------------------------------------

-- the answer, the first block of the file, the table afterwards
pub record Create : Type 0 where
  pub answer : Answer
  pub first : ℕ
  pub table : Bytes

-- the same, by its parts
abbrev pub create_gives : (answer : Answer) (first : ℕ) (table : Bytes) → Create
create_gives answer first table = record { answer = answer; first = first; table = table }

-- its tests: 0 blocks, and more than are free
abbrev pub create_tests : (n : ℕ) (t : Bytes) (count : ℕ) → List (Row Answer)
create_tests n t count = row (count ≡ 0) InvalidValue ∷ row (total (free_at n t) < count) NoSpace ∷ []

-- no test applies
pub record MayCreate (n : ℕ) (t : Bytes) (count : ℕ) : Type 0 where
  pub some : 1 ≤ count
  pub enough : count ≤ total (free_at n t)

-- its refusals: no first block, and the table as it was
abbrev pub create_rows : (n : ℕ) (t : Bytes) (count : ℕ) → List (Row Create)
create_rows n t count = giving (λ a. create_gives a 0 t) (create_tests n t count)

-- Done: the free chain's first blocks are the file
abbrev pub create_done : (n : ℕ) (t : Bytes) (count : ℕ) → Create
create_done n t count = create_gives Done (created_at t) (created n t count)

-- what create gives on a sound table
abbrev pub CreateSound : (n : ℕ) (t : Bytes) (count : ℕ) (o : Create) → Type 0
CreateSound n t count o = First (create_rows n t count) (create_done n t count) o

-- the promise of create
abbrev pub CreatePromise : (t : Bytes) (d l : ℕ) (work : List ℕ) (count : ℕ) → Beside Create → Type 0
CreatePromise t d l work count = ChangePromise (λ a. create_gives a 0 t) t d l work (create_rows (blocks t) t count) (create_done (blocks t) t count)

-- resize -------------------------------------------------------------------------------------------------------------------------------------------

-- the answer, the table afterwards; of delete also
pub record Change : Type 0 where
  pub answer : Answer
  pub table : Bytes

-- the same, by its parts
abbrev pub change_gives : (answer : Answer) (table : Bytes) → Change
change_gives answer table = record { answer = answer; table = table }

-- its tests: no file, 0 blocks, and more than the file and the free chain have
abbrev pub resize_tests : (n : ℕ) (t : Bytes) (b count : ℕ) → List (Row Answer)
resize_tests n t b count =
    row (File t n b → ⊥) NotAFile
    ∷ row (count ≡ 0) InvalidValue
    ∷ row (total (file_at n t b) + total (free_at n t) < count) NoSpace
    ∷ []

-- no test applies
pub record MayResize (n : ℕ) (t : Bytes) (b count : ℕ) : Type 0 where
  pub file : File t n b
  pub some : 1 ≤ count
  pub enough : count ≤ total (file_at n t b) + total (free_at n t)

-- its refusals: the table as it was
abbrev pub resize_rows : (n : ℕ) (t : Bytes) (b count : ℕ) → List (Row Change)
resize_rows n t b count = giving (λ a. change_gives a t) (resize_tests n t b count)

-- Done: the file has count blocks; to the same count nothing changes, which is a theorem about `resized`
abbrev pub resize_done : (n : ℕ) (t : Bytes) (b count : ℕ) → Change
resize_done n t b count = change_gives Done (resized n t b count)

-- what resize gives on a sound table
abbrev pub ResizeSound : (n : ℕ) (t : Bytes) (b count : ℕ) (o : Change) → Type 0
ResizeSound n t b count o = First (resize_rows n t b count) (resize_done n t b count) o

-- the promise of resize
abbrev pub ResizePromise : (t : Bytes) (d l : ℕ) (work : List ℕ) (b count : ℕ) → Beside Change → Type 0
ResizePromise t d l work b count = ChangePromise (λ a. change_gives a t) t d l work (resize_rows (blocks t) t b count) (resize_done (blocks t) t b count)

-- delete -------------------------------------------------------------------------------------------------------------------------------------------

-- its test: no file
abbrev pub delete_tests : (n : ℕ) (t : Bytes) (b : ℕ) → List (Row Answer)
delete_tests n t b = row (File t n b → ⊥) NotAFile ∷ []

-- it does not apply
pub record MayDelete (n : ℕ) (t : Bytes) (b : ℕ) : Type 0 where
  pub file : File t n b

-- its refusal: the table as it was
abbrev pub delete_rows : (n : ℕ) (t : Bytes) (b : ℕ) → List (Row Change)
delete_rows n t b = giving (λ a. change_gives a t) (delete_tests n t b)

-- Done: the file's blocks are free
abbrev pub delete_done : (n : ℕ) (t : Bytes) (b : ℕ) → Change
delete_done n t b = change_gives Done (deleted n t b)

-- what delete gives on a sound table
abbrev pub DeleteSound : (n : ℕ) (t : Bytes) (b : ℕ) (o : Change) → Type 0
DeleteSound n t b o = First (delete_rows n t b) (delete_done n t b) o

-- the promise of delete
abbrev pub DeletePromise : (t : Bytes) (d l : ℕ) (work : List ℕ) (b : ℕ) → Beside Change → Type 0
DeletePromise t d l work b = ChangePromise (λ a. change_gives a t) t d l work (delete_rows (blocks t) t b) (delete_done (blocks t) t b)

-- open list ----------------------------------------------------------------------------------------------------------------------------------------

-- the answer, the number of blocks, the lent list afterwards
pub record Listing : Type 0 where
  pub answer : Answer
  pub count : ℕ
  pub list : List ℕ

-- the same, by its parts
abbrev pub list_gives : (answer : Answer) (count : ℕ) (list : List ℕ) → Listing
list_gives answer count list = record { answer = answer; count = count; list = list }

-- its tests, for a list of room places: no file, and a list that can't hold its blocks
abbrev pub list_tests : (n : ℕ) (t : Bytes) (b room : ℕ) → List (Row Answer)
list_tests n t b room = row (File t n b → ⊥) NotAFile ∷ row (room < total (file_at n t b)) ListTooShort ∷ []

-- no test applies
pub record MayList (n : ℕ) (t : Bytes) (b room : ℕ) : Type 0 where
  pub file : File t n b
  pub enough : total (file_at n t b) ≤ room

-- its refusals: no count, and the list as it was
abbrev pub list_rows : (n : ℕ) (t : Bytes) (b : ℕ) (list : List ℕ) → List (Row Listing)
list_rows n t b list = giving (λ a. list_gives a 0 list) (list_tests n t b (length list))

-- Done: the blocks in chain order; later places stay
abbrev pub list_done : (n : ℕ) (t : Bytes) (b : ℕ) (list : List ℕ) → Listing
list_done n t b list = list_gives Done (total (file_at n t b)) (blocks_of (file_at n t b) ++ drop (total (file_at n t b)) list)

-- what open list gives on a sound table
abbrev pub ListSound : (n : ℕ) (t : Bytes) (b : ℕ) (list : List ℕ) (o : Listing) → Type 0
ListSound n t b list o = First (list_rows n t b list) (list_done n t b list) o

-- the promise of open list
abbrev pub ListPromise : (t : Bytes) (d l : ℕ) (work : List ℕ) (b : ℕ) (list : List ℕ) → Beside Listing → Type 0
ListPromise t d l work b list = Promise (λ a. list_gives a 0 list) t d l work (list_rows (blocks t) t b list) (list_done (blocks t) t b list)

-- read and write -----------------------------------------------------------------------------------------------------------------------------------

-- the number of bytes of the file
abbrev pub size_of : (n : ℕ) (t : Bytes) (l b : ℕ) → ℕ
size_of n t l b = total (file_at n t b) * l

-- the answer; the read buffer afterwards, or the data
pub record Carry : Type 0 where
  pub answer : Answer
  pub bytes : Bytes

-- the same, by its parts
abbrev pub carry_gives : (answer : Answer) (bytes : Bytes) → Carry
carry_gives answer bytes = record { answer = answer; bytes = bytes }

-- their tests, for many bytes from byte pos on: no file, and bytes past its end. Position plus length is a number with no bound
abbrev pub carry_tests : (n : ℕ) (t : Bytes) (l b pos many : ℕ) → List (Row Answer)
carry_tests n t l b pos many = row (File t n b → ⊥) NotAFile ∷ row (size_of n t l b < pos + many) OutOfBound ∷ []

-- no test applies
pub record MayCarry (n : ℕ) (t : Bytes) (l b pos many : ℕ) : Type 0 where
  pub file : File t n b
  pub enough : pos + many ≤ size_of n t l b

-- their refusals: bytes is what stands in the buffer or the data before, and stays
abbrev pub carry_rows : (n : ℕ) (t : Bytes) (l b pos many : ℕ) (bytes : Bytes) → List (Row Carry)
carry_rows n t l b pos many bytes = giving (λ a. carry_gives a bytes) (carry_tests n t l b pos many)

-- read, Done: the buffer has the file's bytes
abbrev pub read_done : (n : ℕ) (t d : Bytes) (l b pos : ℕ) (buf : Bytes) → Carry
read_done n t d l b pos buf = carry_gives Done (bytes_at (length buf) d l (blocks_of (file_at n t b)) pos)

-- what read gives on a sound table
abbrev pub ReadSound : (n : ℕ) (t d : Bytes) (l b pos : ℕ) (buf : Bytes) (o : Carry) → Type 0
ReadSound n t d l b pos buf o = First (carry_rows n t l b pos (length buf) buf) (read_done n t d l b pos buf) o

-- the promise of read
abbrev pub ReadPromise : (t d : Bytes) (l : ℕ) (work : List ℕ) (b pos : ℕ) (buf : Bytes) → Beside Carry → Type 0
ReadPromise t d l work b pos buf =
    Promise (λ a. carry_gives a buf) t (length d) l work (carry_rows (blocks t) t l b pos (length buf) buf) (read_done (blocks t) t d l b pos buf)

-- write, Done: the file's bytes in the data are the buffer's
abbrev pub write_done : (n : ℕ) (t d : Bytes) (l b pos : ℕ) (buf : Bytes) → Carry
write_done n t d l b pos buf = carry_gives Done (written buf d l (blocks_of (file_at n t b)) pos)

-- what write gives on a sound table
abbrev pub WriteSound : (n : ℕ) (t d : Bytes) (l b pos : ℕ) (buf : Bytes) (o : Carry) → Type 0
WriteSound n t d l b pos buf o = First (carry_rows n t l b pos (length buf) d) (write_done n t d l b pos buf) o

-- the promise of write
abbrev pub WritePromise : (t d : Bytes) (l : ℕ) (work : List ℕ) (b pos : ℕ) (buf : Bytes) → Beside Carry → Type 0
WritePromise t d l work b pos buf =
    ChangePromise (λ a. carry_gives a d) t (length d) l work (carry_rows (blocks t) t l b pos (length buf) d) (write_done (blocks t) t d l b pos buf)
