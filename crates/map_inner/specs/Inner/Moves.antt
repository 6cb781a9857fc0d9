-- Runs of a chain put into a map, or taken out of it.
use Rattle.std.specs.Prelude.{◌≡◌, List, ◌++◌, Bool, true, false, ℕ, ◌+◌, ◌≤◌, length, replicate}
use Rattle.map_bits.specs.Bits.{words_from, words_in}
use Rattle.fat_node.specs.Entry.{Bytes}
use Rattle.fat_node.specs.Node.{Run}
use Rattle.fat_table.specs.Sound.{File}
use Rattle.fat_table.specs.Chain.{free_at, file_at}
use Rattle.fat_table.specs.Layout.{left, covers}
use Rattle.fat_table.specs.Steps.{first}
use Rattle.fat_walk.specs.Inner.Chains.{Chain, Inside, Beyond}
use Rattle.fat_walk.specs.declared.Sought.{Sought}
use Rattle.fat_walk.specs.declared.Sought.TheVariants.{Within, Past}

-- the runs l of a chain of the table, from the node that index i names up to and without the one that index stop names, or to the chain's end
pub record Segment (n : ℕ) (t : Bytes) (i stop : ℕ) (l : List Run) : Type 0 where
  pub passed : List Run
  pub rest : List Run
  pub chain : Chain n t (passed ++ (l ++ rest))
  pub at : first (l ++ rest) ≡ i
  pub end : first rest ≡ stop

-- d is the set c with the blocks of the runs l put in, or taken out
abbrev pub Moved : (on : Bool) (c d : ℕ → ℕ) (l : List Run) → Type 0
Moved true c d l = (x : ℕ) → d x ≡ c x + covers x l
Moved false c d l = (x : ℕ) → c x ≡ d x + covers x l

-- the map, of n blocks, shows c, and is to show d
pub record Move (n : ℕ) (on : Bool) (map : List ℕ) (c d : ℕ → ℕ) (l : List Run) : Type 0 where
  pub long : length map ≡ words_in n
  pub shows : map ≡ words_from (words_in n) 0 c
  pub moved : Moved on c d l
  pub was : (x : ℕ) → c x ≤ 1
  pub is : (x : ℕ) → d x ≤ 1

-- of some runs from index i on, and some set, the map is to show d
pub record Going (n : ℕ) (t : Bytes) (i stop : ℕ) (on : Bool) (map : List ℕ) (d : ℕ → ℕ) : Type 0 where
  pub runs : List Run
  pub from : ℕ → ℕ
  pub segment : Segment n t i stop runs
  pub move : Move n on map from d runs

-- the same for some d
pub record Moves (n : ℕ) (t : Bytes) (i stop : ℕ) (on : Bool) (map : List ℕ) : Type 0 where
  pub to : ℕ → ℕ
  pub going : Going n t i stop on map to

-- after m blocks of its node at block x some file can be cut
pub record CutAt (n : ℕ) (t : Bytes) (x m : ℕ) : Type 0 where
  pub file : ℕ
  pub count : ℕ
  pub is : File t n file
  pub cut : Inside (file_at n t file) count x m

-- up to its c-th block, the m-th of its node at block x, the free chain is taken out
pub record TakenIn (n : ℕ) (t : Bytes) (c x m : ℕ) (map : List ℕ) : Type 0 where
  pub is : Inside (free_at n t) c x m
  pub shows : map ≡ words_from (words_in n) 0 (λ z. covers z (left (free_at n t) c))

-- the free chain has fewer than c blocks, and is taken out
pub record TakenAll (n : ℕ) (t : Bytes) (c i m : ℕ) (map : List ℕ) : Type 0 where
  pub is : Beyond (free_at n t) c i m
  pub shows : map ≡ replicate (words_in n) 0

-- what is left in the map where the c-th free block is sought
abbrev pub TakeSays : (n : ℕ) (t : Bytes) (c : ℕ) → Sought → List ℕ → Type 0
TakeSays n t c (Within x m) map = TakenIn n t c x m map
TakeSays n t c (Past i m) map = TakenAll n t c i m map
