-- The history of a table: creates and deletes that make it from a formatted one of its length.
use Rattle.std.specs.Prelude.{List, [], ◌∷◌, ◌++◌, ℕ, zero, suc, ◌+◌}
use Rattle.fat_node.specs.Entry.{Bytes}
use Rattle.fat_node.specs.Node.{Run}
use Rattle.fat_table.specs.Chain.{total, free_at, file_at}
use Rattle.fat_table.specs.Counts.{nodes, starts}

-- a call of a history: create a file of so many blocks, or delete the file at a block
pub data Call : Type 0 where
  create : ℕ → Call
  delete : ℕ → Call

-- a create for each node, from block 0 on: a file of one node each
abbrev pub makes : List Run → List Call
makes [] = []
makes (r ∷ l) = create r.size ∷ makes l

-- a delete for each node of a chain, the last first, so that the nodes stand before the free chain in their order
abbrev pub gives : List Run → List Call
gives [] = []
gives (r ∷ l) = gives l ++ delete r.start ∷ []

-- a file of several nodes: the files of one node each are deleted, and one create takes them all. A file of one node is there already.
abbrev pub joins : List Run → List Call
joins [] = []
joins (r ∷ []) = []
joins (r ∷ s ∷ l) = gives (r ∷ s ∷ l) ++ create (total (r ∷ s ∷ l)) ∷ []

-- the chain where the mark is not 0, else none
abbrev pub marked : ℕ → List Run → List (List Run)
marked zero f = []
marked (suc k) f = f ∷ []

-- the chains of the files that start at these nodes, in their order
abbrev pub files_in : ℕ → Bytes → List Run → List (List Run)
files_in n t [] = []
files_in n t (r ∷ l) = marked (starts t r.start) (file_at n t r.start) ++ files_in n t l

abbrev pub joins_all : List (List Run) → List Call
joins_all [] = []
joins_all (f ∷ fs) = joins f ++ joins_all fs

-- a file for each node, then the files of several nodes by their first blocks, then the free chain
unfoldable pub history : ℕ → Bytes → List Call
history n t = makes (nodes n t) ++ (joins_all (files_in n t (nodes n t)) ++ gives (free_at n t))

-- a history in a list of numbers: for each call what it is, 0 for create and 1 for delete, and its number
abbrev pub encoded : List Call → List ℕ
encoded [] = []
encoded (create c ∷ h) = 0 ∷ c ∷ encoded h
encoded (delete b ∷ h) = 1 ∷ b ∷ encoded h
