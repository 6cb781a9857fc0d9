-- The steps of RULES 4 as functions on the table's bytes; n is the number of blocks. A chain that a step changes is laid whole, so a node that does
-- not change is given the bytes that it has: that no other entry changes is a theorem about these definitions.
use Rattle.std.specs.Prelude.{List, [], ◌∷◌, ◌++◌, cond, ℕ, suc, ◌-◌, leb}
use Rattle.fat_node.specs.Entry.{Bytes}
use Rattle.fat_node.specs.Node.{Run, set_node, set_head}
use Rattle.fat_table.specs.Chain.{total, head_at, free_at, file_at}
use Rattle.fat_table.specs.Layout.{taken, left}

-- the index that names a chain's first node, 0 for a chain of none
abbrev pub first : List Run → ℕ
first [] = 0
first (r ∷ l) = suc r.start

-- every node of a chain is written with its links; p is the index before the first
abbrev pub lay : List Run → ℕ → Bytes → Bytes
lay [] p t = t
lay (r ∷ l) p t = lay l (suc r.start) (set_node t r p (first l))

-- what every step does: it lays the file that it made or changed and the free chain, and sets the head
abbrev pub relaid : Bytes → List Run → List Run → Bytes
relaid t file free = set_head (lay free 0 (lay file 0 t)) (first free)

-- create a file of c blocks: the first c blocks of the free chain
unfoldable pub created : ℕ → Bytes → ℕ → Bytes
created n t c = relaid t (taken (free_at n t) c) (left (free_at n t) c)

-- the first block of the file that create makes, which is the free chain's
abbrev pub created_at : Bytes → ℕ
created_at t = head_at t - 1

-- grow the file at block b by c blocks, the first c of the free chain
unfoldable pub grown : ℕ → Bytes → ℕ → ℕ → Bytes
grown n t b c = relaid t (file_at n t b ++ taken (free_at n t) c) (left (free_at n t) c)

-- shrink the file at block b to c blocks: the nodes after the cut go before the free front, in their order
unfoldable pub shrunk : ℕ → Bytes → ℕ → ℕ → Bytes
shrunk n t b c = relaid t (taken (file_at n t b) c) (left (file_at n t b) c ++ free_at n t)

-- resize the file at block b to c blocks
unfoldable pub resized : ℕ → Bytes → ℕ → ℕ → Bytes
resized n t b c = cond (leb c (total (file_at n t b))) (shrunk n t b c) (grown n t b (c - total (file_at n t b)))

-- delete the file at block b: all its nodes go before the free front, in their order
unfoldable pub deleted : ℕ → Bytes → ℕ → Bytes
deleted n t b = relaid t [] (file_at n t b ++ free_at n t)
