-- The promise of each call on the entry tables, whole: sizes, work list and soundness, then the call's own rows, on all inputs. s are the four tables as
-- they are lent, work the work list, opens the open records of the kind's table, x an inode, p a parent's inode. The last argument is what is given: the
-- answer with its fields and what stands in every lent buffer afterwards, beside the work list. The two calls on a name are in crate tree.
use Rattle.std.specs.Prelude.{List, [], ℕ, replicate}
use Rattle.order.specs.Beside.{Beside}
use Rattle.tree_key.specs.Key.{name_key}
use Rattle.tree_table.specs.View.{View}
use Rattle.tree_sound.specs.Tables.{Tables}
use Rattle.tree_opens.specs.declared.Want.{Want}
use Rattle.tree_promises.specs.declared.Kind.{Kind}
use Rattle.tree_promises.specs.declared.Kind.TheVariants.{Directory, File}
use Rattle.tree_promises.specs.Kinds.{carried_many, kind_view}
use Rattle.tree_promises.specs.Calls as calls
use Rattle.tree_promises.specs.Promise.{TreePromise, OpensPromise}

-- lookup of a parent and a name, in the directories or in the files (v)
abbrev pub LookupPromise : (s : Tables) (v : View) (work : List ℕ) (p : ℕ) (name : List ℕ) → Beside calls.Lookup → Type 0
LookupPromise s v work p name =
    TreePromise (λ a. calls.lookup_gives a 0 0) s work (calls.lookup_rows v (name_key p name)) (calls.lookup_done v (name_key p name))

-- the directories or the files (v) in directory x
abbrev pub ListPromise : (s : Tables) (v : View) (work : List ℕ) (x : ℕ) (list : List ℕ) → Beside calls.Listing → Type 0
ListPromise s v work x list = TreePromise (λ a. calls.list_gives a 0 list) s work (calls.list_rows s v x list) (calls.list_done v x list)

abbrev pub StatPromise : (s : Tables) (work : List ℕ) → Beside calls.Stat → Type 0
StatPromise s work = TreePromise (λ a. calls.stat_gives a 0 0 0 0) s work [] (calls.stat_done s)

-- directories and files alike -----------------------------------------------------------------------------------------------------------------------

module _ (kind : Kind) (s : Tables) where
  -- carried bytes, read and set
  abbrev pub CarriedPromise : (work : List ℕ) (x : ℕ) → Beside calls.Shown → Type 0
  CarriedPromise work x =
      TreePromise (λ a. calls.shown_gives a (replicate (carried_many kind) 0)) s work
      (calls.shown_rows (kind_view kind s) x (replicate (carried_many kind) 0)) (calls.carried_done kind s x)

  abbrev pub SetCarriedPromise : (work : List ℕ) (x : ℕ) (bytes : List ℕ) → Beside calls.Carry → Type 0
  SetCarriedPromise work x bytes =
      TreePromise (λ a. calls.carry_gives a s) s work (calls.carry_rows s (kind_view kind s) x) (calls.carry_done kind s x bytes)

  -- make, of a parent, a name and the carried bytes
  abbrev pub MakePromise : (opens work : List ℕ) (p : ℕ) (name bytes : List ℕ) → Beside calls.Make → Type 0
  MakePromise opens work p name bytes =
      OpensPromise kind (λ a. calls.make_gives a 0 s opens) s opens work (calls.make_rows s (kind_view kind s) opens p name)
      (calls.make_done kind s opens p name bytes)

  -- rename of x to a parent and a name
  abbrev pub RenamePromise : (opens work : List ℕ) (x p : ℕ) (name : List ℕ) → Beside calls.Change → Type 0
  RenamePromise opens work x p name =
      OpensPromise kind (λ a. calls.change_gives a s opens) s opens work (calls.rename_rows kind s opens x p name) (calls.rename_done kind s opens x p name)

  abbrev pub DeletePromise : (opens work : List ℕ) (x : ℕ) → Beside calls.Change → Type 0
  DeletePromise opens work x =
      OpensPromise kind (λ a. calls.change_gives a s opens) s opens work (calls.delete_rows kind s opens x) (calls.delete_done kind s opens x)

  -- open and close of x, for a reader or for the writer
  abbrev pub OpenPromise : (opens work : List ℕ) (x : ℕ) (want : Want) → Beside calls.Opening → Type 0
  OpenPromise opens work x want =
      OpensPromise kind (λ a. calls.opening_gives a opens) s opens work (calls.open_rows (kind_view kind s) opens x want) (calls.open_done opens x want)

  abbrev pub ClosePromise : (opens work : List ℕ) (x : ℕ) (want : Want) → Beside calls.Opening → Type 0
  ClosePromise opens work x want =
      OpensPromise kind (λ a. calls.opening_gives a opens) s opens work (calls.close_rows (kind_view kind s) opens x want) (calls.close_done opens x want)

-- by the calls' names -------------------------------------------------------------------------------------------------------------------------------

abbrev pub CarriedDirPromise : (s : Tables) (work : List ℕ) (x : ℕ) → Beside calls.Shown → Type 0
CarriedDirPromise = CarriedPromise Directory

abbrev pub CarriedFilePromise : (s : Tables) (work : List ℕ) (x : ℕ) → Beside calls.Shown → Type 0
CarriedFilePromise = CarriedPromise File

abbrev pub SetCarriedDirPromise : (s : Tables) (work : List ℕ) (x : ℕ) (padding : List ℕ) → Beside calls.Carry → Type 0
SetCarriedDirPromise = SetCarriedPromise Directory

abbrev pub SetCarriedFilePromise : (s : Tables) (work : List ℕ) (x : ℕ) (carried : List ℕ) → Beside calls.Carry → Type 0
SetCarriedFilePromise = SetCarriedPromise File

abbrev pub MakeDirPromise : (s : Tables) (opens work : List ℕ) (p : ℕ) (name padding : List ℕ) → Beside calls.Make → Type 0
MakeDirPromise = MakePromise Directory

abbrev pub MakeFilePromise : (s : Tables) (opens work : List ℕ) (p : ℕ) (name carried : List ℕ) → Beside calls.Make → Type 0
MakeFilePromise = MakePromise File

abbrev pub RenameDirPromise : (s : Tables) (opens work : List ℕ) (x p : ℕ) (name : List ℕ) → Beside calls.Change → Type 0
RenameDirPromise = RenamePromise Directory

abbrev pub RenameFilePromise : (s : Tables) (opens work : List ℕ) (x p : ℕ) (name : List ℕ) → Beside calls.Change → Type 0
RenameFilePromise = RenamePromise File

abbrev pub DeleteDirPromise : (s : Tables) (opens work : List ℕ) (x : ℕ) → Beside calls.Change → Type 0
DeleteDirPromise = DeletePromise Directory

abbrev pub DeleteFilePromise : (s : Tables) (opens work : List ℕ) (x : ℕ) → Beside calls.Change → Type 0
DeleteFilePromise = DeletePromise File

abbrev pub OpenDirPromise : (s : Tables) (opens work : List ℕ) (x : ℕ) (want : Want) → Beside calls.Opening → Type 0
OpenDirPromise = OpenPromise Directory

abbrev pub OpenFilePromise : (s : Tables) (opens work : List ℕ) (x : ℕ) (want : Want) → Beside calls.Opening → Type 0
OpenFilePromise = OpenPromise File

abbrev pub CloseDirPromise : (s : Tables) (opens work : List ℕ) (x : ℕ) (want : Want) → Beside calls.Opening → Type 0
CloseDirPromise = ClosePromise Directory

abbrev pub CloseFilePromise : (s : Tables) (opens work : List ℕ) (x : ℕ) (want : Want) → Beside calls.Opening → Type 0
CloseFilePromise = ClosePromise File
