-- What the functions inside say. Before a chain is followed, what is asked of work list and mark is `MayJudge` of the call on shared blocks.
use Rattle.std.specs.Prelude.{◌≡◌, Bool, true, false, List, ℕ, ◌+◌, ◌*◌, ◌≤◌, ◌<◌, length, replicate}
use Rattle.std.proofs.lemmas.List.Edits.{sets}
use Rattle.order.specs.First.{First}
use Rattle.order.specs.declared.Fault.{Fault}
use Rattle.fat_node.specs.Entry.{Bytes}
use Rattle.fat_table.specs.Chain.{total}
use Rattle.salvage.specs.Inner.Walks.{Below}
use Rattle.salvage_shared.specs.Inner.Says.{Sized}
use Rattle.salvage_chains.specs.Chains.{one, chains, many, ends_of, followed}
use Rattle.salvage_chains.specs.Calls.{Chained, chained_rows, chained_done}

-- one chain was followed, with the mark m
pub record OneSays (n : ℕ) (t : Bytes) (b m spent count : ℕ) (why : Fault) (w' : List ℕ) : Type 0 where
  pub sum : count ≡ total (one n t b spent).runs
  pub ended : why ≡ (one n t b spent).why
  pub free : Below w' (m + 1)
  pub few : spent + count ≤ 5 * n
  pub long : length w' ≡ n

-- its blocks can be written from place at on
pub record MayNumber (n : ℕ) (t : Bytes) (b spent count : ℕ) (list : List ℕ) (at : ℕ) : Type 0 where
  pub room : length t ≡ 8 * (n + 1)
  pub small : n ≤ 1000000
  pub sum : count ≡ total (one n t b spent).runs
  pub fits : at + count ≤ length list

-- a clear work list, for no more than 1,000,000 first blocks
pub record MayAll (n : ℕ) (t : Bytes) (w firsts : List ℕ) : Type 0 where
  pub sized : Sized n t w
  pub clear : w ≡ replicate n 0
  pub few : length firsts ≤ 1000000

-- how many blocks there are, and the work list's length then
pub record Summed (n : ℕ) (t : Bytes) (firsts : List ℕ) (r : ℕ) (w' : List ℕ) : Type 0 where
  pub sum : r ≡ many (chains n t firsts)
  pub long : length w' ≡ n

-- r tells whether the blocks have room in k places; the work list is clear then
pub record RoomSays (n : ℕ) (t : Bytes) (firsts : List ℕ) (k : ℕ) (r : Bool) (w' : List ℕ) : Type 0 where
  pub yes : r ≡ true → many (chains n t firsts) ≤ k
  pub no : r ≡ false → k < many (chains n t firsts)
  pub clear : w' ≡ replicate n 0

-- both lists have room
pub record Rooms (n : ℕ) (t : Bytes) (firsts e list : List ℕ) : Type 0 where
  pub three : 3 * length firsts ≤ length e
  pub blocks : many (chains n t firsts) ≤ length list

-- both lists are written, with so many blocks
pub record Wrote (n : ℕ) (t : Bytes) (firsts e list e' list' w' : List ℕ) (count : ℕ) : Type 0 where
  pub told_is : e' ≡ sets e 0 (ends_of (chains n t firsts))
  pub list_is : list' ≡ sets list 0 (followed (chains n t firsts))
  pub sum : count ≡ many (chains n t firsts)
  pub long : length w' ≡ n

-- what the call gives where the sizes fit, and the work list then
pub record ChainedSays (n : ℕ) (t : Bytes) (firsts e list : List ℕ) (o : Chained) (w' : List ℕ) : Type 0 where
  pub given : First (chained_rows n t firsts e list) (chained_done n t firsts e list) o
  pub clear : w' ≡ replicate n 0
