-- What the passes say of the work list: 0 where no node starts, 1 at a node that was not come to yet, a colour or the ring's mark at one that was.
-- Contracts inside the crate.
use Rattle.std.specs.Prelude.{◌≡◌, Bool, true, false, List, ◌⊎◌, ℕ, zero, suc, ◌+◌, ◌<◌, ◌≤◌, length, get_or, Result, Ok, Err, Option, Some, None}
use Rattle.order.specs.Answer.{unbroken}
use Rattle.fat_node.specs.Entry.{Bytes}
use Rattle.order.specs.declared.Fault.{Fault}
use Rattle.fat_fault.specs.Fault.{walk_fault, is_node, hop}
use Rattle.fat_fault.specs.Inner.Ring.{Way, Ring}

-- the mark of a node that lies in a ring
abbrev pub round : ℕ
round = 2147483648

-- the marks are not 0 exactly where the nodes start
pub record Marked (n : ℕ) (t : Bytes) (w : List ℕ) : Type 0 where
  pub long : length w ≡ n
  pub node : (x : ℕ) → is_node n t x ≡ true → 0 < get_or w x 0
  pub mark : (x : ℕ) → 0 < get_or w x 0 → is_node n t x ≡ true

-- and no node was come to yet
pub record Fresh (n : ℕ) (t : Bytes) (w : List ℕ) : Type 0 where
  pub marked : Marked n t w
  pub least : (x : ℕ) → get_or w x 0 ≤ 1

-- a fault f of the rules is found, or there is none
abbrev pub Finds : Fault → Result (Unit {0}) Fault → Type 0
Finds f (Ok done) = f ≡ unbroken
Finds f (Err found) = (found ≡ f) × (found.rule ≡ 0 → ⊥)

-- the walk leaves the marks, or finds the first fault
abbrev pub Walked : ℕ → Bytes → List ℕ → Result (Unit {0}) Fault → Type 0
Walked n t w (Ok done) = (walk_fault n t ≡ unbroken) × Fresh n t w
Walked n t w (Err f) = Finds (walk_fault n t) (Err f)

-- index i names block j, whose place is not 0; or it names none
abbrev pub Names : List ℕ → ℕ → Option ℕ → Type 0
Names w i (Some j) = (i ≡ j + 1) × (j < length w) × (0 < get_or w j 0)
Names w i None = (j : ℕ) → i ≡ j + 1 → get_or w j 0 ≡ 0

-- next at block b names the node at block j, or it names none
abbrev pub Hops : ℕ → Bytes → ℕ → Option ℕ → Type 0
Hops n t b (Some j) = hop n t b ≡ suc j
Hops n t b None = hop n t b ≡ zero

-- the nodes below block c, and what they lead to, are coloured: with a colour below c + 2, or in a ring with its mark
pub record Coloured (n : ℕ) (t : Bytes) (c : ℕ) (w : List ℕ) : Type 0 where
  pub marked : Marked n t w
  pub done : (x : ℕ) → x < c → 0 < get_or w x 0 → 1 < get_or w x 0
  pub closed : (x y : ℕ) → 1 < get_or w x 0 → hop n t x ≡ suc y → 1 < get_or w y 0
  pub colour : (x : ℕ) → (get_or w x 0 < c + 2) ⊎ (get_or w x 0 ≡ round)
  pub rings : (x : ℕ) → get_or w x 0 ≡ round → Ring (hop n t) x
  pub ringed : (x : ℕ) → 1 < get_or w x 0 → Ring (hop n t) x → get_or w x 0 ≡ round

-- what the ring's mark is given to is closed
abbrev pub Closed : ℕ → Bytes → List ℕ → Type 0
Closed n t w = (x y : ℕ) → get_or w x 0 ≡ round → hop n t x ≡ suc y → get_or w y 0 ≡ round

-- every node that block j leads to has the ring's mark; no other place was changed
pub record Rounded (n : ℕ) (t : Bytes) (j : ℕ) (w w' : List ℕ) : Type 0 where
  pub long : length w' ≡ length w
  pub all : (x : ℕ) → Way (hop n t) x j → get_or w' x 0 ≡ round
  pub only : (x : ℕ) → (get_or w' x 0 ≡ get_or w x 0) ⊎ (Way (hop n t) x j × (get_or w' x 0 ≡ round))

-- what the colouring from block b tells: one comes back to b, or what b leads to is coloured too
pub record Came (n : ℕ) (t : Bytes) (b : ℕ) (w : List ℕ) (r : Bool) : Type 0 where
  pub yes : r ≡ true → Ring (hop n t) b
  pub no : r ≡ false → Coloured n t (b + 1) w
