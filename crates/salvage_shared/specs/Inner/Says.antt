-- What the functions inside say. A place of the work list counts the whole chains that its block is in, as 0, 1, or 2 for more than one.
use Rattle.std.specs.Prelude.{◌≡◌, Result, Ok, Err, Bool, cond, List, ◌∷◌, ℕ, ◌+◌, ◌*◌, ◌≤◌, ◌<◌, leb, length, get_or, replicate}
use Rattle.order.specs.First.{First}
use Rattle.order.specs.Gate.{refusal}
use Rattle.order.specs.Given.{Given}
use Rattle.order.specs.declared.Refusal.{Refusal}
use Rattle.fat_node.specs.Entry.{Bytes}
use Rattle.fat_node.specs.Node.{Run, NodeAt}
use Rattle.fat_node.specs.Sizes.{blocks, Misfit, Outside}
use Rattle.fat_table.specs.Layout.{covers}
use Rattle.salvage.specs.Follow.{salvaged}
use Rattle.salvage.specs.Inner.Walks.{Below}
use Rattle.salvage_shared.specs.Shared.{kinds, twice, meets, told, tells, trusts}
use Rattle.salvage_shared.specs.Calls.{Shared, shared_rows, shared_done, shared_gate}

-- c, or 2 where it is more
unfoldable pub two : ℕ → ℕ
two c = cond (leb c 1) c 2

-- the places count the runs of a list that each block is in
abbrev pub Counts : (w : List ℕ) (l : List Run) → Type 0
Counts w l = (x : ℕ) → get_or w x 0 ≡ two (covers x l)

-- the runs of a list are counted in addition
pub record Added (w w' : List ℕ) (l : List Run) : Type 0 where
  pub at : (x c : ℕ) → get_or w x 0 ≡ two c → get_or w' x 0 ≡ two (c + covers x l)
  pub long : length w' ≡ length w

-- r counts one chain more than v
pub record More (v r : ℕ) : Type 0 where
  pub at : (c : ℕ) → v ≡ two c → r ≡ two (c + 1)

-- r tells whether a block of the s from b on is counted twice
pub record MeetsRun (w : List ℕ) (b s : ℕ) (r : Bool) : Type 0 where
  pub is : (l : List Run) → Counts w l → r ≡ twice s b l

-- r tells whether a block of these runs is
pub record MeetsRuns (w : List ℕ) (c : List Run) (r : Bool) : Type 0 where
  pub is : (l : List Run) → Counts w l → r ≡ meets c l

-- v is what is told of the chain that block b starts, where k was told of it before
pub record Tells (n : ℕ) (t : Bytes) (w : List ℕ) (b k v : ℕ) : Type 0 where
  pub is : (l : List Run) → Counts w l → v ≡ told n t l b k

-- and list what is told of each
pub record TellsAll (n : ℕ) (t : Bytes) (w firsts ks list : List ℕ) : Type 0 where
  pub is : (l : List Run) → Counts w l → list ≡ tells n t l firsts ks

-- a node stands at block b
pub record NodeHere (n : ℕ) (t : Bytes) (b : ℕ) : Type 0 where
  pub room : length t ≡ 8 * (n + 1)
  pub small : n ≤ 1000000
  pub node : (s : ℕ) × NodeAt t n b s

-- a table of n blocks and a work list of as many places
pub record Sized (n : ℕ) (t : Bytes) (w : List ℕ) : Type 0 where
  pub room : length t ≡ 8 * (n + 1)
  pub small : n ≤ 1000000
  pub long : length w ≡ n

-- the chain that block b starts is whole
pub record WholeAt (n : ℕ) (t : Bytes) (w : List ℕ) (b : ℕ) : Type 0 where
  pub sized : Sized n t w
  pub whole : (salvaged n t b).why.rule ≡ 0

-- where 0 is told of it, it is
pub record Told (n : ℕ) (t : Bytes) (w : List ℕ) (b k : ℕ) : Type 0 where
  pub sized : Sized n t w
  pub whole : k ≡ 0 → (salvaged n t b).why.rule ≡ 0

-- what is told of each of a list
pub record Kinds (n : ℕ) (t : Bytes) (w firsts ks : List ℕ) : Type 0 where
  pub sized : Sized n t w
  pub many : length ks ≡ length firsts
  pub whole : (i : ℕ) → i < length firsts → get_or ks i 0 ≡ 0 → (salvaged n t (get_or firsts i 0)).why.rule ≡ 0

-- the next chain can be judged: no place has its mark m, and no more than 5n blocks were followed
pub record MayJudge (n : ℕ) (t : Bytes) (w : List ℕ) (m spent : ℕ) : Type 0 where
  pub sized : Sized n t w
  pub free : Below w m
  pub few : spent ≤ 5 * n

-- what is told of it, and the blocks followed then
pub record Judges (n : ℕ) (t : Bytes) (b m spent : ℕ) (w' : List ℕ) (kind spent' : ℕ) : Type 0 where
  pub next : (bs : List ℕ) → kinds n t (b ∷ bs) spent ≡ kind ∷ kinds n t bs spent'
  pub free : Below w' (m + 1)
  pub few : spent' ≤ 5 * n
  pub long : length w' ≡ n

-- a clear work list, and a list with a place for each first block
pub record MayShare (n : ℕ) (t : Bytes) (w firsts list : List ℕ) : Type 0 where
  pub sized : Sized n t w
  pub clear : w ≡ replicate n 0
  pub many : length list ≡ length firsts
  pub few : length firsts ≤ 1000000

-- a table of n blocks, a work list of so many places, and no more than 1,000,000 first blocks
pub record Fitting (t : Bytes) (firsts places n : ℕ) : Type 0 where
  pub is : n ≡ blocks t
  pub room : length t ≡ 8 * (n + 1)
  pub small : n ≤ 1000000
  pub few : firsts ≤ 1000000
  pub enough : n ≤ places
  pub fits : Misfit t → ⊥
  pub inside : Outside t → ⊥

-- sizes and work list fit, and n is the number of blocks; or one of their rows refuses
abbrev pub BlocksFor : (t : Bytes) (firsts places : ℕ) → Result ℕ Refusal → Type 0
BlocksFor t firsts places (Ok n) = Fitting t firsts places n
BlocksFor t firsts places (Err why) =
    (bs work : List ℕ) → length bs ≡ firsts → length work ≡ places → Given (shared_gate refusal t work bs) (refusal (Err why) work)

-- what the call gives where the sizes fit, and the work list then
pub record SharedSays (n : ℕ) (t : Bytes) (firsts list : List ℕ) (o : Shared) (w' : List ℕ) : Type 0 where
  pub given : First (shared_rows firsts list) (shared_done n t firsts list) o
  pub clear : w' ≡ replicate n 0

-- what was judged of each, and the work list's length then
pub record JudgedAll (n : ℕ) (t : Bytes) (firsts list w' : List ℕ) : Type 0 where
  pub told : list ≡ kinds n t firsts 0
  pub long : length w' ≡ n

-- what is told of the chains, and a clear work list
pub record Shares (n : ℕ) (t : Bytes) (firsts list w' : List ℕ) : Type 0 where
  pub told : list ≡ trusts n t firsts
  pub clear : w' ≡ replicate n 0
