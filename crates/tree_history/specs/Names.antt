-- The names that stand in the tables.
use Rattle.std.specs.Prelude.{◌≡◌, List, [], ◌∷◌, ◌++◌, Bool, true, ℕ, ◌/◌, ◌%◌, eqb, get_or}
use Rattle.order.specs.Answer.{Answer}
use Rattle.order.specs.Answer.{Done, InvalidValue, DeletingRoot, NotOpen}
use Rattle.links.specs.Change.{pick}
use Rattle.tree_table.specs.View.{View, LiveIn}
use Rattle.tree_sound.specs.Tables.{Tables, dirs, files}
use Rattle.tree_promises.specs.declared.Kind.{Kind}
use Rattle.tree_promises.specs.declared.Kind.TheVariants.{Directory, File}
use Rattle.tree_promises.specs.Legal.{legal}

-- the four bytes of a word, the lowest first; and the sixteen of the name in a key, whose first word is the parent
abbrev pub bytes_of : ℕ → List ℕ
bytes_of w = w % 256 ∷ w / 256 % 256 ∷ w / 65536 % 256 ∷ w / 16777216 % 256 ∷ []

abbrev pub name_in : List ℕ → List ℕ
name_in k = bytes_of (get_or k 1 0) ++ (bytes_of (get_or k 2 0) ++ (bytes_of (get_or k 3 0) ++ bytes_of (get_or k 4 0)))

-- every live entry of a table but the root has a legal name
abbrev pub LegalIn : View → Type 0
LegalIn v = (x : ℕ) → LiveIn v x → (x ≡ v.root → ⊥) → legal (name_in (v.key x)) ≡ true

pub record AllLegal (s : Tables) : Type 0 where
  pub of_dirs : LegalIn (dirs s)
  pub of_files : LegalIn (files s)

-- what make answers to a name that is not legal, whatever its parent is
abbrev pub bad_make : Answer
bad_make = InvalidValue

-- what rename answers to one, of a live entry x that so many writers hold, whatever the new parent is
abbrev pub bad_rename : (kind : Kind) (writer x : ℕ) → Answer
bad_rename Directory writer x = pick (eqb writer 0) NotOpen (pick (eqb x 1) DeletingRoot InvalidValue)
bad_rename File writer x = pick (eqb writer 0) NotOpen InvalidValue

-- what lookup answers of a name that is there, and what the test answers of sound tables that hold one, whether or not the name is legal
abbrev pub named_lookup : (legal : Bool) → Answer
named_lookup t = Done

abbrev pub named_test : (legal : Bool) → Answer
named_test t = Done
