-- What the gates of the calls with a map tell.
use Rattle.std.specs.Prelude.{◌≡◌, Result, Ok, Err, List, [], ℕ}
use Rattle.order.specs.First.{Row, First}
use Rattle.order.specs.Gate.{cleared, refusal}
use Rattle.order.specs.Given.{Given, None}
use Rattle.order.specs.Answer.{Answer}
use Rattle.order.specs.declared.Refusal.{Refusal}
use Rattle.fat_node.specs.declared.Counts.{Counts}
use Rattle.fat_node.specs.Entry.{Bytes}
use Rattle.fat_node.specs.Sizes.{blocks}
use Rattle.fat_table.specs.Sound.{Sound}
use Rattle.fat_promises.specs.Promise.{change_rows}
use Rattle.fat_promises.specs.Calls.{Create, create_gives, create_rows, create_done, Change, change_gives, resize_rows, resize_done, delete_rows, delete_done}
use Rattle.map_inner.specs.Map.{map_of}
use Rattle.fat_map.specs.Gate.{map_gate, map_rows}

-- the gate is open: no row applies, the table is sound, and the work list is cleared
pub record OpenedMap (t : Bytes) (d l : ℕ) (more : List (Row Answer)) (work map work' : List ℕ) : Type 0 where
  pub none : None (map_gate refusal t d l more work map)
  pub sound : Sound t (blocks t)
  pub clear : work' ≡ cleared (blocks t) work

-- it is open, or the first row that applies refuses
unfoldable pub MapGateOf : {A : Type 0} (t : Bytes) (d l : ℕ) (more : List (Row Answer)) (work map work' : List ℕ) → Result A Refusal → Type 0
MapGateOf t d l more work map work' (Ok told) = OpenedMap t d l more work map work'
MapGateOf t d l more work map work' (Err why) = Given (map_gate refusal t d l more work map) (refusal (Err why) work')

-- of build, and of the calls that change the table
abbrev pub BuildGateOf : (t : Bytes) (d l : ℕ) (work map work' : List ℕ) → Result Counts Refusal → Type 0
BuildGateOf t d l work map work' r = MapGateOf t d l [] work map work' r

abbrev pub ChangeGateOf : (t : Bytes) (d l : ℕ) (work map work' : List ℕ) → Answer → Type 0
ChangeGateOf t d l work map work' r = MapGateOf t d l (map_rows t l map) work map work' r

-- what the calls give that test nothing but the block length: the row of the block length, then the call's own; and the map of the table afterwards
pub record TestedCreate (n : ℕ) (t : Bytes) (l count : ℕ) (o : Create) (map : List ℕ) : Type 0 where
  pub sound : First (change_rows (λ a. create_gives a 0 t) l (create_rows n t count)) (create_done n t count) o
  pub kept : map ≡ map_of n o.table

pub record TestedResize (n : ℕ) (t : Bytes) (l b count : ℕ) (o : Change) (map : List ℕ) : Type 0 where
  pub sound : First (change_rows (λ a. change_gives a t) l (resize_rows n t b count)) (resize_done n t b count) o
  pub kept : map ≡ map_of n o.table

pub record TestedDelete (n : ℕ) (t : Bytes) (l b : ℕ) (o : Change) (map : List ℕ) : Type 0 where
  pub sound : First (change_rows (λ a. change_gives a t) l (delete_rows n t b)) (delete_done n t b) o
  pub kept : map ≡ map_of n o.table
