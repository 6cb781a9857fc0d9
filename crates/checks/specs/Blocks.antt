-- The checks of the block table, in the order of RULES 8. A state is a table.
use Rattle.std.specs.Prelude.{List, [], ◌∷◌, ℕ, ◌+◌, ◌*◌, replicate}
use Rattle.order.specs.Answer.{number_of}
use Rattle.fat_node.specs.Entry.{Bytes}
use Rattle.fat_node.specs.Format.{FormatPromise}
use Rattle.order.specs.Answer.{Answer}
use Rattle.fat_test.specs.Promise.{TestPromise}
use Rattle.fat_test.specs.Promise.{Tested}
use Rattle.order.specs.Beside.{Beside}
use Rattle.fat_promises.specs.Calls.{
  Create,
  CreatePromise,
  Change,
  ResizePromise,
  DeletePromise,
  Listing,
  ListPromise,
  Carry,
  ReadPromise,
}
use Rattle.checks.specs.Check.{Check, History, entries}

-- a table of n blocks, all bytes zero
abbrev pub zeros : ℕ → Bytes
zeros n = replicate (8 * (n + 1)) 0

-- the data, four blocks of 512 bytes, and the work list
abbrev pub data4 : Bytes
data4 = replicate 2048 0

abbrev pub work4 : List ℕ
work4 = replicate 4 0

-- lent places and bytes, so many, each 9
abbrev pub nines : ℕ → List ℕ
nines many = replicate many 9

-- format, n blocks: the number of the answer, then all entries
abbrev pub formats : ℕ → List ℕ → Check Bytes
formats n wanted =
    record {
      Given = Answer × Bytes;
      promise = λ t o. FormatPromise t o.0 o.1;
      seen = λ o. number_of o.0 ∷ entries (n + 1) 0 o.1;
      wanted = wanted;
      after = λ t o. o.1;
    }

-- create, over 4 blocks: the number, the first block, then all entries
abbrev pub creates : ℕ → List ℕ → Check Bytes
creates count wanted =
    record {
      Given = Beside Create;
      promise = λ t. CreatePromise t 2048 512 work4 count;
      seen = λ o. number_of o.given.answer ∷ o.given.first ∷ entries 5 0 o.given.table;
      wanted = wanted;
      after = λ t o. o.given.table;
    }

-- delete: the number, then all entries
abbrev pub deletes : ℕ → List ℕ → Check Bytes
deletes b wanted =
    record {
      Given = Beside Change;
      promise = λ t. DeletePromise t 2048 512 work4 b;
      seen = λ o. number_of o.given.answer ∷ entries 5 0 o.given.table;
      wanted = wanted;
      after = λ t o. o.given.table;
    }

-- resize: the same
abbrev pub resizes : ℕ → ℕ → List ℕ → Check Bytes
resizes b count wanted =
    record {
      Given = Beside Change;
      promise = λ t. ResizePromise t 2048 512 work4 b count;
      seen = λ o. number_of o.given.answer ∷ entries 5 0 o.given.table;
      wanted = wanted;
      after = λ t o. o.given.table;
    }

-- the test: the number, the free blocks, the files
abbrev pub tests : List ℕ → Check Bytes
tests wanted =
    record {
      Given = Tested × List ℕ;
      promise = λ t. TestPromise t work4;
      seen = λ o. number_of o.0.answer ∷ o.0.free ∷ o.0.files ∷ [];
      wanted = wanted;
      after = λ t o. t;
    }

-- open list, with four places lent: the number, the count, then the places
abbrev pub opens : ℕ → List ℕ → Check Bytes
opens b wanted =
    record {
      Given = Beside Listing;
      promise = λ t. ListPromise t 2048 512 work4 b (nines 4);
      seen = λ o. number_of o.given.answer ∷ o.given.count ∷ o.given.list;
      wanted = wanted;
      after = λ t o. t;
    }

-- read of so many bytes at a position: the number, then the buffer
abbrev pub reads : ℕ → ℕ → ℕ → List ℕ → Check Bytes
reads b pos many wanted =
    record {
      Given = Beside Carry;
      promise = λ t. ReadPromise t data4 512 work4 b pos (nines many);
      seen = λ o. number_of o.given.answer ∷ o.given.bytes;
      wanted = wanted;
      after = λ t o. t;
    }

-- n = 4: format over zero bytes; then create 1, create 2 and delete 0
abbrev pub format4 : Check Bytes
format4 = formats 4 (0 ∷ 0 ∷ 1 ∷ 0x80000000 ∷ 0x80000000 ∷ 0x80000001 ∷ 4 ∷ 0 ∷ 0 ∷ 0x80000001 ∷ 4 ∷ [])

abbrev pub create1 : Check Bytes
create1 = creates 1 (0 ∷ 0 ∷ 0 ∷ 2 ∷ 0x80000000 ∷ 0 ∷ 0x80000000 ∷ 0x80000000 ∷ 0x80000002 ∷ 4 ∷ 0x80000002 ∷ 4 ∷ [])

abbrev pub create2 : Check Bytes
create2 = creates 2 (0 ∷ 1 ∷ 0 ∷ 4 ∷ 0x80000000 ∷ 0 ∷ 0x80000000 ∷ 0x80000000 ∷ 0x80000002 ∷ 3 ∷ 0x80000000 ∷ 0 ∷ [])

-- head, entry 1 and entry 4 as RULES 8 has them; the file at 1 keeps its entries
abbrev pub delete0 : Check Bytes
delete0 = deletes 0 (0 ∷ 0 ∷ 1 ∷ 0x80000000 ∷ 4 ∷ 0x80000000 ∷ 0x80000000 ∷ 0x80000002 ∷ 3 ∷ 1 ∷ 0 ∷ [])

-- free 2, and one file
abbrev pub free2 : Check Bytes
free2 = tests (0 ∷ 2 ∷ 1 ∷ [])

-- then create 2, and its blocks 0, 3
abbrev pub create2again : Check Bytes
create2again = creates 2 (0 ∷ 0 ∷ 0 ∷ 0 ∷ 0x80000000 ∷ 4 ∷ 0x80000000 ∷ 0x80000000 ∷ 0x80000002 ∷ 3 ∷ 1 ∷ 0 ∷ [])

abbrev pub open0 : Check Bytes
open0 = opens 0 (0 ∷ 2 ∷ 0 ∷ 3 ∷ 9 ∷ 9 ∷ [])

-- then resize file 1 to 1
abbrev pub resize1 : Check Bytes
resize1 = resizes 1 1 (0 ∷ 0 ∷ 3 ∷ 0x80000000 ∷ 4 ∷ 0x80000000 ∷ 0 ∷ 0x80000000 ∷ 0 ∷ 1 ∷ 0 ∷ [])

-- then to 3: NoSpace, and the table as it was
abbrev pub resize3 : Check Bytes
resize3 = resizes 1 3 (6 ∷ 0 ∷ 3 ∷ 0x80000000 ∷ 4 ∷ 0x80000000 ∷ 0 ∷ 0x80000000 ∷ 0 ∷ 1 ∷ 0 ∷ [])

-- read of 0 bytes at the end: Done; of 1 byte: OutOfBound, and the buffer as it was
abbrev pub read0 : Check Bytes
read0 = reads 1 512 0 (0 ∷ [])

abbrev pub read1 : Check Bytes
read1 = reads 1 512 1 (7 ∷ 9 ∷ [])

abbrev pub four_blocks : History
four_blocks =
    record {
      State = Bytes;
      start = zeros 4;
      checks =
          format4
          ∷ create1
          ∷ create2
          ∷ delete0
          ∷ free2
          ∷ create2again
          ∷ open0
          ∷ resize1
          ∷ resize3
          ∷ read0
          ∷ read1
          ∷ [];
    }

-- n = 1: format
abbrev pub one_block : History
one_block = record { State = Bytes; start = zeros 1; checks = formats 1 (0 ∷ 0 ∷ 1 ∷ 0x80000000 ∷ 0 ∷ []) ∷ [] }
