-- The steps of RULES 6 on the four tables, as writes to their fields, for directories and files alike. Make is take, link and carry; delete is unlink and
-- give up; rename is unlink and link. x is an entry, p its parent, name sixteen bytes.
use Rattle.std.specs.Prelude.{List, [], ◌∷◌, ◌++◌, ℕ, eqb}
use Rattle.words.specs.Word.{word}
use Rattle.tree_key.specs.Key.{name_key}
use Rattle.tree_table.specs.Field.{field, Write, write, collision_field, next_field, sub_dir_field, sub_file_field, padding_field, carried_field}
use Rattle.tree_table.specs.View.{View, place, parent}
use Rattle.tree_table.specs.Steps.{taken, take_writes, enter_writes, bucket_before, child_before, cut_writes, head_writes, give_writes}
use Rattle.tree_sound.specs.Tables.{Tables}
use Rattle.tree_promises.specs.declared.Kind.{Kind}
use Rattle.tree_promises.specs.declared.Kind.TheVariants.{Directory, File}
use Rattle.tree_promises.specs.Kinds.{width, head_field, kind_table, kind_view, wrote_entries, wrote_lists}

-- take: the entry that make uses, out of the removed list or new
abbrev pub taken_from : (kind : Kind) (s : Tables) → Tables
taken_from kind s = wrote_entries kind s (take_writes (eqb ((kind_view kind s).coll 0) 0) (field (width kind) (kind_table kind s)))

-- link: entry x gets its key, a parent and a name, and stands first in its bucket and in its parent's list
abbrev pub entered : (v : View) (x p : ℕ) (name : List ℕ) → List Write
entered v x p name =
    enter_writes x p (word name 0) (word name 4) (word name 8) (word name 12) (v.head p) (v.hash (place v (name_key p name)))

abbrev pub linked_to : (kind : Kind) (s : Tables) (x p : ℕ) (name : List ℕ) → Tables
linked_to kind s x p name =
    wrote_lists kind s
    (write (place (kind_view kind s) (name_key p name)) collision_field x ∷ [])
    (entered (kind_view kind s) x p name)
    (write p (head_field kind) x ∷ [])

-- unlink: entry x leaves its bucket and its parent's list
abbrev pub cut : (v : View) (x : ℕ) → List Write
cut v x =
    cut_writes (eqb (bucket_before v x) 0) (bucket_before v x) collision_field (v.coll x)
    ++ cut_writes (eqb (child_before v x) 0) (child_before v x) next_field (v.next x)

abbrev pub unlinked_from : (kind : Kind) (s : Tables) (x : ℕ) → Tables
unlinked_from kind s x =
    wrote_lists kind s
    (head_writes (eqb (bucket_before (kind_view kind s) x) 0) (place (kind_view kind s) ((kind_view kind s).key x)) collision_field ((kind_view kind s).coll x))
    (cut (kind_view kind s) x)
    (head_writes (eqb (child_before (kind_view kind s) x) 0) (parent ((kind_view kind s).key x)) (head_field kind) ((kind_view kind s).next x))

-- give up: entry 0's whole width over entry x, and x is the first removed entry
abbrev pub given_up : (kind : Kind) (s : Tables) (x : ℕ) → Tables
given_up kind s x = wrote_entries kind s (give_writes (width kind) (field (width kind) (kind_table kind s)) x)

-- carry: the bytes that the caller keeps in an entry, 4 of a directory and 20 of a file, by their words
abbrev pub carry_writes : (kind : Kind) (x : ℕ) (bytes : List ℕ) → List Write
carry_writes Directory x bytes = write x padding_field (word bytes 0) ∷ []
carry_writes File x bytes =
    write x (carried_field 0) (word bytes 0)
    ∷ write x (carried_field 1) (word bytes 4)
    ∷ write x (carried_field 2) (word bytes 8)
    ∷ write x (carried_field 3) (word bytes 12)
    ∷ write x (carried_field 4) (word bytes 16)
    ∷ []

abbrev pub with_carried : (kind : Kind) (s : Tables) (x : ℕ) (bytes : List ℕ) → Tables
with_carried kind s x bytes = wrote_entries kind s (carry_writes kind x bytes)

-- a new directory has no children
abbrev pub childless : (kind : Kind) (s : Tables) (x : ℕ) → Tables
childless Directory s x = wrote_entries Directory s (write x sub_dir_field 0 ∷ write x sub_file_field 0 ∷ [])
childless File s x = s

-- the calls' steps
abbrev pub made : (kind : Kind) (s : Tables) (p : ℕ) (name bytes : List ℕ) → Tables
made kind s p name bytes =
    with_carried kind
    (linked_to kind (childless kind (taken_from kind s) (taken (kind_view kind s))) (taken (kind_view kind s)) p name)
    (taken (kind_view kind s))
    bytes

abbrev pub deleted : (kind : Kind) (s : Tables) (x : ℕ) → Tables
deleted kind s x = given_up kind (unlinked_from kind s x) x

abbrev pub renamed : (kind : Kind) (s : Tables) (x p : ℕ) (name : List ℕ) → Tables
renamed kind s x p name = linked_to kind (unlinked_from kind s x) x p name
