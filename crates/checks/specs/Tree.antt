-- The checks of the entry tables, in the order of RULES 8. A state is the four tables.
use Rattle.std.specs.Prelude.{◌≡◌, List, [], ◌∷◌, ◌++◌, ℕ, zero, suc, ◌+◌, ◌%◌, replicate}
use Rattle.words.specs.Word.{word}
use Rattle.order.specs.Answer.{number_of}
use Rattle.order.specs.Beside.{Beside}
use Rattle.tree_key.specs.Hash.{hash_of}
use Rattle.tree_key.specs.Key.{name_key}
use Rattle.tree_table.specs.Field.{field}
use Rattle.tree_sound.specs.Tables.{Tables, tables, dirs}
use Rattle.tree_promises.specs.Calls.{Carry, Make, Lookup}
use Rattle.tree_promises.specs.Format.{FormatPromise}
use Rattle.tree_promises.specs.Public.{MakeDirPromise, MakeFilePromise, LookupPromise}
use Rattle.checks.specs.Check.{Check, History}

-- the root's key; the name 61 and fifteen zeros, and its key under the root
abbrev pub root_key : List ℕ
root_key = 0 ∷ 0 ∷ 0 ∷ 0 ∷ 0 ∷ []

abbrev pub name : List ℕ
name = 0x61 ∷ replicate 15 0

abbrev pub key : List ℕ
key = name_key 1 name

-- five buckets and room for four directories, one bucket and room for one file, all bytes junk
abbrev pub junk : Tables
junk = tables (replicate 20 0xA5) (replicate 160 0xA5) (replicate 4 0xA5) (replicate 48 0xA5)

-- the work list, and the directories' open records
abbrev pub work5 : List ℕ
work5 = replicate 5 0

abbrev pub opens4 : List ℕ
opens4 = replicate 4 0

-- the words of a table from place `at` on, k of them
abbrev pub words_at : ℕ → ℕ → List ℕ → List ℕ
words_at zero at t = []
words_at (suc k) at t = word t at ∷ words_at k (at + 4) t

-- a number that is computed from a key, on no state
abbrev pub computed : ℕ → ℕ → Check (Unit {0})
computed number wanted =
    record { Given = ℕ; promise = λ s r. r ≡ number; seen = λ r. r ∷ []; wanted = wanted ∷ []; after = λ s r. s }

abbrev pub root_hash : Check (Unit {0})
root_hash = computed (hash_of root_key) 0xC091A2B3

abbrev pub root_in5 : Check (Unit {0})
root_in5 = computed (hash_of root_key % 5) 3

abbrev pub root_in3 : Check (Unit {0})
root_in3 = computed (hash_of root_key % 3) 0

abbrev pub key_hash : Check (Unit {0})
key_hash = computed (hash_of key) 0xF091A2BF

abbrev pub key_in5 : Check (Unit {0})
key_in5 = computed (hash_of key % 5) 3

-- the hashes and the buckets of the two keys
abbrev pub hashes : History
hashes = record { State = Unit {0}; start = tt; checks = root_hash ∷ root_in5 ∷ root_in3 ∷ key_hash ∷ key_in5 ∷ [] }

-- format: the number, the directories' hash, their entries 0 and 1
abbrev pub format_tree : Check Tables
format_tree =
    record {
      Given = Carry;
      promise = λ s. FormatPromise s 4 1;
      seen = λ o. number_of o.answer ∷ (words_at 5 0 o.tables.dir_hash ++ words_at 20 0 o.tables.dir_table);
      wanted = 0 ∷ 0 ∷ 0 ∷ 0 ∷ 1 ∷ 0 ∷ 2 ∷ 4 ∷ replicate 18 0;
      after = λ s o. o.tables;
    }

-- make: the number, the inode, bucket 3, the new entry's collision, the root's sub_dir
abbrev pub make_dir : Check Tables
make_dir =
    record {
      Given = Beside Make;
      promise = λ s. MakeDirPromise s opens4 work5 1 name (replicate 4 0);
      seen = λ o.
          number_of o.given.answer
          ∷ o.given.inode
          ∷ field 4 o.given.tables.dir_hash 3 0
          ∷ field 40 o.given.tables.dir_table 2 0
          ∷ field 40 o.given.tables.dir_table 1 7
          ∷ [];
      wanted = 0 ∷ 2 ∷ 2 ∷ 1 ∷ 2 ∷ [];
      after = λ s o. o.given.tables;
    }

-- lookup of a parent and a name: the number, the inode, the number compared
abbrev pub lookup : ℕ → List ℕ → List ℕ → Check Tables
lookup p n wanted =
    record {
      Given = Beside Lookup;
      promise = λ s. LookupPromise s (dirs s) work5 p n;
      seen = λ o. number_of o.given.answer ∷ o.given.inode ∷ o.given.compared ∷ [];
      wanted = wanted;
      after = λ s o. s;
    }

abbrev pub lookup_dir : Check Tables
lookup_dir = lookup 1 name (0 ∷ 2 ∷ 1 ∷ [])

abbrev pub lookup_root : Check Tables
lookup_root = lookup 0 (replicate 16 0) (0 ∷ 1 ∷ 2 ∷ [])

-- format over junk; then make; then the two lookups
abbrev pub tree : History
tree = record { State = Tables; start = junk; checks = format_tree ∷ make_dir ∷ lookup_dir ∷ lookup_root ∷ [] }

-- beside the P checks: the files' maximum is 1, so the first make of a file is NoSpace, with the tables and the open records as they were
abbrev pub make_file : Check Tables
make_file =
    record {
      Given = Beside Make;
      promise = λ s. MakeFilePromise s (replicate 1 0) work5 1 name (replicate 20 0);
      seen = λ o. number_of o.given.answer ∷ o.given.inode ∷ (o.given.opens ++ o.given.tables.file_table);
      wanted = 6 ∷ 0 ∷ 0 ∷ 1 ∷ 0 ∷ 0 ∷ 0 ∷ 1 ∷ replicate 43 0;
      after = λ s o. o.given.tables;
    }

abbrev pub no_space : History
no_space = record { State = Tables; start = junk; checks = format_tree ∷ make_file ∷ [] }
