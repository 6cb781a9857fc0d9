-- The directories and the files, by kind: what is said of both is said once, over the kind.
use Rattle.std.specs.Prelude.{List, ◌++◌, ℕ}
use Rattle.tree_table.specs.Field.{Write, wrote, sub_dir_field, sub_file_field}
use Rattle.tree_table.specs.View.{View}
use Rattle.tree_sound.specs.Sizes.{dir_room, file_room}
use Rattle.tree_sound.specs.Tables.{Tables, tables, dirs, files}
use Rattle.tree_promises.specs.declared.Kind.{Kind}
use Rattle.tree_promises.specs.declared.Kind.TheVariants.{Directory, File}

-- the width of an entry; where the bytes that it carries stand in it, and how many they are
abbrev pub width : Kind → ℕ
width Directory = 40
width File = 48

abbrev pub carried_at : Kind → ℕ
carried_at Directory = 32
carried_at File = 24

abbrev pub carried_many : Kind → ℕ
carried_many Directory = 4
carried_many File = 20

-- the field of a directory in which its list of children of the kind starts
abbrev pub head_field : Kind → ℕ
head_field Directory = sub_dir_field
head_field File = sub_file_field

-- the kind's entries, as bytes and as the rules read them, and as many as there is room for
abbrev pub kind_table : (kind : Kind) (s : Tables) → List ℕ
kind_table Directory s = s.dir_table
kind_table File s = s.file_table

abbrev pub kind_view : (kind : Kind) (s : Tables) → View
kind_view Directory s = dirs s
kind_view File s = files s

abbrev pub kind_room : (kind : Kind) (s : Tables) → ℕ
kind_room Directory s = dir_room s.dir_table
kind_room File s = file_room s.file_table

-- the tables after writes to the kind's entries
abbrev pub wrote_entries : (kind : Kind) (s : Tables) (entries : List Write) → Tables
wrote_entries Directory s entries = tables s.dir_hash (wrote 40 s.dir_table entries) s.file_hash s.file_table
wrote_entries File s entries = tables s.dir_hash s.dir_table s.file_hash (wrote 48 s.file_table entries)

-- after writes to the kind's hash, to its entries, and to the heads of its lists of children, which stand in the directories
abbrev pub wrote_lists : (kind : Kind) (s : Tables) (hash entries heads : List Write) → Tables
wrote_lists Directory s hash entries heads =
    tables (wrote 4 s.dir_hash hash) (wrote 40 s.dir_table (entries ++ heads)) s.file_hash s.file_table
wrote_lists File s hash entries heads =
    tables s.dir_hash (wrote 40 s.dir_table heads) (wrote 4 s.file_hash hash) (wrote 48 s.file_table entries)
