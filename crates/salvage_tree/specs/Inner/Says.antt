-- What the functions inside say of the work list: a place is 1 where its entry was met, else 0.
use Rattle.std.specs.Prelude.{◌≡◌, cond, List, [], ◌∷◌, Result, Ok, Err, ℕ, zero, suc, ◌*◌, ◌/◌, ◌≤◌, eqb, length, get_or, replicate}
use Rattle.order.specs.First.{First}
use Rattle.order.specs.Gate.{refusal}
use Rattle.order.specs.Given.{Given}
use Rattle.order.specs.declared.Refusal.{Refusal}
use Rattle.tree_table.specs.Chain.{member}
use Rattle.salvage_tree.specs.Entries.{bound}
use Rattle.salvage_tree.specs.Calls.{Entered, entered_rows, entered_done, entered_gate}

-- the places of the work list tell what was met
pub record Marks (work met : List ℕ) : Type 0 where
  pub at : (y : ℕ) → get_or work y 0 ≡ cond (member y met) 1 0

-- of k entries from x on those whose places are 0
abbrev pub unmarked : (k x : ℕ) (work : List ℕ) → List ℕ
unmarked zero x work = []
unmarked (suc k) x work = cond (eqb (get_or work x 0) 0) (x ∷ unmarked k (suc x) work) (unmarked k (suc x) work)

-- a table of entries of width w has room for r of them, and there are as many places
pub record Roomy (w : ℕ) (t : List ℕ) (places r : ℕ) : Type 0 where
  pub some : w ≤ length t
  pub is : r ≡ length t / w
  pub few : r ≤ 65536
  pub enough : r ≤ places

-- sizes and work list fit, for so many places, and r is how many entries there is room for; or one of their rows refuses
abbrev pub RoomFor : (w : ℕ) (t : List ℕ) (places : ℕ) → Result ℕ Refusal → Type 0
RoomFor w t places (Ok r) = Roomy w t places r
RoomFor w t places (Err why) = (work : List ℕ) → length work ≡ places → Given (entered_gate refusal w t work) (refusal (Err why) work)

-- a table of so many entries of width w, n of which are looked at, and a work list with a place for each that there is room for
pub record Sized (w : ℕ) (t : List ℕ) (n : ℕ) (work : List ℕ) : Type 0 where
  pub wide : 24 ≤ w
  pub some : w ≤ length t
  pub is : n ≡ bound w t
  pub inside : n * w ≤ length t
  pub few : n ≤ 65536
  pub long : n ≤ length work

-- what the call gives where the sizes fit, and the work list then
pub record EnteredSays (w : ℕ) (t list : List ℕ) (o : Entered) (k : ℕ) (work' : List ℕ) : Type 0 where
  pub given : First (entered_rows w t list) (entered_done w t list) o
  pub clear : work' ≡ replicate k 0
