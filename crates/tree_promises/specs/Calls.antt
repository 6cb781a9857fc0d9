-- What each call on the entry tables promises: its own rows, in the order of RULES 2.2, and what Done gives. s are the four tables, v the view of the table
-- that the call is about, x an inode, p a parent's inode, k a key. These rows are decided where sizes, work list and soundness have passed.
use Rattle.std.specs.Prelude.{◌≡◌, List, [], ◌∷◌, ◌++◌, false, ◌⊎◌, ℕ, ◌+◌, ◌-◌, ◌*◌, ◌<◌, length, take, drop}
use Rattle.order.specs.First.{Row, row, First}
use Rattle.order.specs.Giving.{giving}
use Rattle.order.specs.Answer.{Answer}
use Rattle.order.specs.Answer.{
  Done,
  InvalidValue,
  NoSpace,
  ListTooShort,
  NotFound,
  AlreadyExist,
  Busy,
  DeletingRoot,
  NotEmpty,
  IntoItself,
}
use Rattle.links.specs.Links.{◌∈◌}
use Rattle.tree_key.specs.Key.{name_key}
use Rattle.tree_table.specs.View.{View, place, bucket_of, children_of, LiveIn}
use Rattle.tree_table.specs.Steps.{taken, free_of}
use Rattle.tree_table.specs.Chain.{seek_in}
use Rattle.tree_sound.specs.Tables.{Tables, dirs, files}
use Rattle.tree_opens.specs.Opens.{opened, with_open}
use Rattle.tree_opens.specs.Record.{readers, writer_alone}
use Rattle.tree_opens.specs.Step.{more, less, more_tests, less_tests}
use Rattle.tree_opens.specs.declared.Want.{Want}
use Rattle.tree_opens.specs.declared.Want.TheVariants.{Writer}
use Rattle.tree_promises.specs.declared.Kind.{Kind}
use Rattle.tree_promises.specs.declared.Kind.TheVariants.{Directory, File}
use Rattle.tree_promises.specs.Legal.{legal}
use Rattle.tree_promises.specs.Has.{Has, HasOther, above}
use Rattle.tree_promises.specs.Kinds.{width, carried_at, carried_many, kind_table, kind_view}
use Rattle.tree_promises.specs.Steps.{with_carried, made, deleted, renamed}

-- inode x is live
abbrev pub live_tests : (v : View) (x : ℕ) → List (Row Answer)
live_tests v x = row (LiveIn v x → ⊥) NotFound ∷ []

-- lookup -------------------------------------------------------------------------------------------------------------------------------------------

-- the answer, the inode, the number of entries compared
pub record Lookup : Type 0 where
  pub answer : Answer
  pub inode : ℕ
  pub compared : ℕ

abbrev pub lookup_gives : (answer : Answer) (inode compared : ℕ) → Lookup
lookup_gives answer inode compared = record { answer = answer; inode = inode; compared = compared }

-- NotFound keeps the number compared, which is the bucket's length
abbrev pub lookup_rows : (v : View) (key : List ℕ) → List (Row Lookup)
lookup_rows v k = row (Has v k → ⊥) (lookup_gives NotFound 0 (length (bucket_of v (place v k)))) ∷ []

-- the match, and its place in its bucket from 1
abbrev pub lookup_done : (v : View) (key : List ℕ) → Lookup
lookup_done v k =
    lookup_gives Done (seek_in v.key k (bucket_of v (place v k)) 0).inode (seek_in v.key k (bucket_of v (place v k)) 0).compared

-- make ---------------------------------------------------------------------------------------------------------------------------------------------

-- the answer, the new inode, the tables and the open records afterwards
pub record Make : Type 0 where
  pub answer : Answer
  pub inode : ℕ
  pub tables : Tables
  pub opens : List ℕ

abbrev pub make_gives : (answer : Answer) (inode : ℕ) (tables : Tables) (opens : List ℕ) → Make
make_gives answer inode tables opens = record { answer = answer; inode = inode; tables = tables; opens = opens }

-- the new name is judged before all else; in the last row no entry is left, never used or removed: free_of counts both
abbrev pub make_tests : (s : Tables) (v : View) (p : ℕ) (name : List ℕ) → List (Row Answer)
make_tests s v p name =
    row (legal name ≡ false) InvalidValue
    ∷ row (LiveIn (dirs s) p → ⊥) NotFound
    ∷ row (Has v (name_key p name)) AlreadyExist
    ∷ row (free_of v ≡ 0) NoSpace
    ∷ []

abbrev pub make_rows : (s : Tables) (v : View) (opens : List ℕ) (p : ℕ) (name : List ℕ) → List (Row Make)
make_rows s v opens p name = giving (λ a. make_gives a 0 s opens) (make_tests s v p name)

-- bytes are those that the entry carries; the new entry has the writer's open and no readers
abbrev pub make_done : (kind : Kind) (s : Tables) (opens : List ℕ) (p : ℕ) (name bytes : List ℕ) → Make
make_done kind s opens p name bytes =
    make_gives Done (taken (kind_view kind s)) (made kind s p name bytes) (with_open opens (taken (kind_view kind s)) writer_alone)

-- rename, delete, open and close -------------------------------------------------------------------------------------------------------------------

-- the answer, the tables and the open records afterwards
pub record Change : Type 0 where
  pub answer : Answer
  pub tables : Tables
  pub opens : List ℕ

abbrev pub change_gives : (answer : Answer) (tables : Tables) (opens : List ℕ) → Change
change_gives answer tables opens = record { answer = answer; tables = tables; opens = opens }

-- The tests of close, rename, delete and open ask for the record r of inode x alone, wherever it stands: ..Of says them so, and beside each is the same of
-- one record for each inode.

-- close gives back an open of the kind, which inode x of the table v must have
abbrev pub close_tests_of : (v : View) (r x : ℕ) (want : Want) → List (Row Answer)
close_tests_of v r x want = live_tests v x ++ less_tests r want

abbrev pub close_tests : (v : View) (opens : List ℕ) (x : ℕ) (want : Want) → List (Row Answer)
close_tests v opens x want = close_tests_of v (opened opens x) x want

-- rename and delete need the writer's open
abbrev pub held_tests_of : (v : View) (r x : ℕ) → List (Row Answer)
held_tests_of v r x = close_tests_of v r x Writer

-- of a directory: the root stays, and none goes to itself or below itself
abbrev pub root_tests : (kind : Kind) (x : ℕ) → List (Row Answer)
root_tests Directory x = row (x ≡ 1) DeletingRoot ∷ []
root_tests File x = []

abbrev pub ring_tests : (kind : Kind) (s : Tables) (x p : ℕ) → List (Row Answer)
ring_tests Directory s x p = row (x ∈ above (dirs s) p) IntoItself ∷ []
ring_tests File s x p = []

-- the new name is judged once the subject is, and before the parent. Readers do not keep a rename off. Rename needs no entry but the subject's own, so it can't run out of room
-- (tree_history/proofs/Space.antt): no row asks for one
abbrev pub rename_tests_of : (kind : Kind) (s : Tables) (r x p : ℕ) (name : List ℕ) → List (Row Answer)
rename_tests_of kind s r x p name =
    held_tests_of (kind_view kind s) r x
    ++ (root_tests kind x
    ++ (row (legal name ≡ false) InvalidValue
    ∷ row (LiveIn (dirs s) p → ⊥) NotFound
    ∷ (ring_tests kind s x p
    ++ (row (HasOther (kind_view kind s) x (name_key p name)) AlreadyExist
    ∷ []))))

abbrev pub rename_tests : (kind : Kind) (s : Tables) (opens : List ℕ) (x p : ℕ) (name : List ℕ) → List (Row Answer)
rename_tests kind s opens x p name = rename_tests_of kind s (opened opens x) x p name

abbrev pub rename_rows : (kind : Kind) (s : Tables) (opens : List ℕ) (x p : ℕ) (name : List ℕ) → List (Row Change)
rename_rows kind s opens x p name = giving (λ a. change_gives a s opens) (rename_tests kind s opens x p name)

abbrev pub rename_done : (kind : Kind) (s : Tables) (opens : List ℕ) (x p : ℕ) (name : List ℕ) → Change
rename_done kind s opens x p name = change_gives Done (renamed kind s x p name) opens

-- delete is Busy while readers remain, and leaves nothing open
abbrev pub alone_tests_of : (v : View) (r x : ℕ) → List (Row Answer)
alone_tests_of v r x = held_tests_of v r x ++ (row (0 < readers r) Busy ∷ [])

-- and of a directory, that it is not the root and has no children
abbrev pub empty_tests : (kind : Kind) (s : Tables) (x : ℕ) → List (Row Answer)
empty_tests Directory s x = root_tests Directory x ++ (row ((0 < (dirs s).head x) ⊎ (0 < (files s).head x)) NotEmpty ∷ [])
empty_tests File s x = []

abbrev pub delete_tests_of : (kind : Kind) (s : Tables) (r x : ℕ) → List (Row Answer)
delete_tests_of kind s r x = alone_tests_of (kind_view kind s) r x ++ empty_tests kind s x

abbrev pub delete_tests : (kind : Kind) (s : Tables) (opens : List ℕ) (x : ℕ) → List (Row Answer)
delete_tests kind s opens x = delete_tests_of kind s (opened opens x) x

abbrev pub delete_rows : (kind : Kind) (s : Tables) (opens : List ℕ) (x : ℕ) → List (Row Change)
delete_rows kind s opens x = giving (λ a. change_gives a s opens) (delete_tests kind s opens x)

abbrev pub delete_done : (kind : Kind) (s : Tables) (opens : List ℕ) (x : ℕ) → Change
delete_done kind s opens x = change_gives Done (deleted kind s x) (with_open opens x 0)

-- the answer, the open records afterwards
pub record Opening : Type 0 where
  pub answer : Answer
  pub opens : List ℕ

abbrev pub opening_gives : (answer : Answer) (opens : List ℕ) → Opening
opening_gives answer opens = record { answer = answer; opens = opens }

abbrev pub open_tests : (v : View) (opens : List ℕ) (x : ℕ) (want : Want) → List (Row Answer)
open_tests v opens x want = live_tests v x ++ more_tests (opened opens x) want

abbrev pub open_rows : (v : View) (opens : List ℕ) (x : ℕ) (want : Want) → List (Row Opening)
open_rows v opens x want = giving (λ a. opening_gives a opens) (open_tests v opens x want)

abbrev pub open_done : (opens : List ℕ) (x : ℕ) (want : Want) → Opening
open_done opens x want = opening_gives Done (with_open opens x (more (opened opens x) want))

abbrev pub close_rows : (v : View) (opens : List ℕ) (x : ℕ) (want : Want) → List (Row Opening)
close_rows v opens x want = giving (λ a. opening_gives a opens) (close_tests v opens x want)

abbrev pub close_done : (opens : List ℕ) (x : ℕ) (want : Want) → Opening
close_done opens x want = opening_gives Done (with_open opens x (less (opened opens x) want))

-- listing ------------------------------------------------------------------------------------------------------------------------------------------

-- the answer, the number of inodes, the lent list afterwards
pub record Listing : Type 0 where
  pub answer : Answer
  pub count : ℕ
  pub list : List ℕ

abbrev pub list_gives : (answer : Answer) (count : ℕ) (list : List ℕ) → Listing
list_gives answer count list = record { answer = answer; count = count; list = list }

-- where the list xs is to be written: a lent list that is too short; the inodes in list order, and later places as they were
abbrev pub short_tests : (xs list : List ℕ) → List (Row Answer)
short_tests xs list = row (length list < length xs) ListTooShort ∷ []

abbrev pub short_rows : (xs list : List ℕ) → List (Row Listing)
short_rows xs list = giving (λ a. list_gives a 0 list) (short_tests xs list)

abbrev pub listed_done : (xs list : List ℕ) → Listing
listed_done xs list = list_gives Done (length xs) (xs ++ drop (length xs) list)

-- v are the directories or the files, x the directory whose children in v are listed
abbrev pub list_tests : (s : Tables) (v : View) (x : ℕ) (list : List ℕ) → List (Row Answer)
list_tests s v x list = live_tests (dirs s) x ++ short_tests (children_of v x) list

abbrev pub list_rows : (s : Tables) (v : View) (x : ℕ) (list : List ℕ) → List (Row Listing)
list_rows s v x list = giving (λ a. list_gives a 0 list) (list_tests s v x list)

abbrev pub list_done : (v : View) (x : ℕ) (list : List ℕ) → Listing
list_done v x list = listed_done (children_of v x) list

-- what the two listings say of sound tables
abbrev pub ListDirs : (s : Tables) (x : ℕ) (list : List ℕ) → Listing → Type 0
ListDirs s x list o = First (list_rows s (dirs s) x list) (list_done (dirs s) x list) o

abbrev pub ListFiles : (s : Tables) (x : ℕ) (list : List ℕ) → Listing → Type 0
ListFiles s x list o = First (list_rows s (files s) x list) (list_done (files s) x list) o

-- stat ---------------------------------------------------------------------------------------------------------------------------------------------

-- the answer, entries in all and entries free, of the directories and of the files
pub record Stat : Type 0 where
  pub answer : Answer
  pub dir_total : ℕ
  pub dir_free : ℕ
  pub file_total : ℕ
  pub file_free : ℕ

abbrev pub stat_gives : (answer : Answer) (dir_total dir_free file_total file_free : ℕ) → Stat
stat_gives answer dt df ft ff = record { answer = answer; dir_total = dt; dir_free = df; file_total = ft; file_free = ff }

abbrev pub stat_done : Tables → Stat
stat_done s = stat_gives Done ((dirs s).maximum - 1) (free_of (dirs s)) ((files s).maximum - 1) (free_of (files s))

-- carried bytes ------------------------------------------------------------------------------------------------------------------------------------

-- the bytes of an entry: many of them from place `at` on of entry x in a table of width w
abbrev pub part : (w : ℕ) (t : List ℕ) (x at many : ℕ) → List ℕ
part w t x at many = take many (drop (x * w + at) t)

-- the answer, and the bytes: the 4 or 20 carried ones
pub record Shown : Type 0 where
  pub answer : Answer
  pub bytes : List ℕ

abbrev pub shown_gives : (answer : Answer) (bytes : List ℕ) → Shown
shown_gives answer bytes = record { answer = answer; bytes = bytes }

-- none is what a refusal shows: zero bytes
abbrev pub shown_rows : (v : View) (x : ℕ) (none : List ℕ) → List (Row Shown)
shown_rows v x none = giving (λ a. shown_gives a none) (live_tests v x)

abbrev pub carried_done : (kind : Kind) (s : Tables) (x : ℕ) → Shown
carried_done kind s x = shown_gives Done (part (width kind) (kind_table kind s) x (carried_at kind) (carried_many kind))

-- the answer, the tables afterwards
pub record Carry : Type 0 where
  pub answer : Answer
  pub tables : Tables

abbrev pub carry_gives : (answer : Answer) (tables : Tables) → Carry
carry_gives answer tables = record { answer = answer; tables = tables }

abbrev pub carry_rows : (s : Tables) (v : View) (x : ℕ) → List (Row Carry)
carry_rows s v x = giving (λ a. carry_gives a s) (live_tests v x)

abbrev pub carry_done : (kind : Kind) (s : Tables) (x : ℕ) (bytes : List ℕ) → Carry
carry_done kind s x bytes = carry_gives Done (with_carried kind s x bytes)
