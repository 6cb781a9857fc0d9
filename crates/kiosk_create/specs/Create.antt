-- What the kiosk's create promises: create's tests, but that one free node has to hold the file, and what Done gives. n is the number of blocks, t the
-- table, d the length of the data, l the block length.
use Rattle.std.specs.Prelude.{◌≡◌, ℕ, ◌-◌, ◌≤◌, ◌<◌, length}
use mathlib.Core.List.{List, [], ◌∷◌, ◌++◌, Memᴰ}
use Rattle.order.specs.First.{Row, row, First}
use Rattle.order.specs.Giving.{giving}
use Rattle.order.specs.Answer.{Answer}
use Rattle.order.specs.Answer.{Done, InvalidValue, NoSpace}
use Rattle.fat_node.specs.Entry.{Bytes}
use Rattle.fat_node.specs.Node.{Run}
use Rattle.fat_node.specs.Sizes.{blocks}
use Rattle.fat_table.specs.Sound.{File}
use Rattle.fat_table.specs.Chain.{total, free_at, file_at}
use Rattle.fat_table.specs.Layout.{left}
use Rattle.fat_promises.specs.Promise.{Beside, ChangePromise, change_rows}
use Rattle.fat_promises.specs.Calls.{Create, create_gives}
use Rattle.fat_carve.specs.Carve.{fit}
use Rattle.fat_place.specs.Place.{placed}

-- no node of a chain has so many blocks
abbrev pub NoneLong : (count : ℕ) → List Run → Type 0
NoneLong count l = (r : Run) → Memᴰ r l → r.size < count

-- so many blocks are free, in one node or in several: what create asks for, and is not enough here
abbrev pub Enough : (count : ℕ) → List Run → Type 0
Enough count l = count ≤ total l

-- its tests: 0 blocks, and no free node of so many
abbrev pub kiosk_tests : (n : ℕ) (t : Bytes) (count : ℕ) → List (Row Answer)
kiosk_tests n t count = row (count ≡ 0) InvalidValue ∷ row (NoneLong count (free_at n t)) NoSpace ∷ []

-- the first block of the first node along the free chain that has so many blocks
unfoldable pub fit_at : (n : ℕ) (t : Bytes) (count : ℕ) → ℕ
fit_at n t count = fit count (free_at n t) - 1

-- its refusals are create's in kind: no first block, and the table as it was
abbrev pub kiosk_rows : (n : ℕ) (t : Bytes) (count : ℕ) → List (Row Create)
kiosk_rows n t count = giving (λ a. create_gives a 0 t) (kiosk_tests n t count)

-- Done: that node's left part is the file, cut out of the free chain in place
abbrev pub kiosk_done : (n : ℕ) (t : Bytes) (count : ℕ) → Create
kiosk_done n t count = create_gives Done (fit_at n t count) (placed n t (fit_at n t count) count)

-- what it gives on a sound table
abbrev pub KioskSound : (n : ℕ) (t : Bytes) (count : ℕ) (o : Create) → Type 0
KioskSound n t count o = First (kiosk_rows n t count) (kiosk_done n t count) o

-- what it gives there to a side that has tested its table once: the block length is judged first
abbrev pub KioskTested : (n : ℕ) (t : Bytes) (l count : ℕ) (o : Create) → Type 0
KioskTested n t l count o = First (change_rows (λ a. create_gives a 0 t) l (kiosk_rows n t count)) (kiosk_done n t count) o

-- the promise of the kiosk's create
abbrev pub KioskPromise : (t : Bytes) (d l : ℕ) (work : List ℕ) (count : ℕ) → Beside Create → Type 0
KioskPromise t d l work count = ChangePromise (λ a. create_gives a 0 t) t d l work (kiosk_rows (blocks t) t count) (kiosk_done (blocks t) t count)

-- m is the first block of the first node of a chain l that has so many blocks, and l' is the chain without that node's left part: what is left of the
-- node stands in its place, and where nothing is left its neighbours stand side by side
pub record FirstCut (count : ℕ) (l : List Run) (m : ℕ) (l' : List Run) : Type 0 where
  pub before : List Run
  pub node : Run
  pub after : List Run
  pub is : l ≡ before ++ node ∷ after
  pub at : node.start ≡ m
  pub long : count ≤ node.size
  pub short : NoneLong count before
  pub leaves : l' ≡ before ++ (left (node ∷ []) count ++ after)

-- the chain rule of the profile: every file is a single node
abbrev pub Single : (n : ℕ) (t : Bytes) → Type 0
Single n t = (b : ℕ) → File t n b → length (file_at n t b) ≡ 1
