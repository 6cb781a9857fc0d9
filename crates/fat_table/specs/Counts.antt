-- What the test answers of a table of n blocks: its free blocks, and the number of its other chains.
use Rattle.std.specs.Prelude.{List, [], ◌∷◌, cond, ℕ, zero, suc, ◌+◌, eqb, ltb}
use Rattle.fat_node.specs.Entry.{Bytes}
use Rattle.fat_node.specs.Node.{Run, run, prev_at}
use Rattle.fat_table.specs.Chain.{total, head_at, size_at, free_at}

-- the sizes along the free chain, summed
abbrev pub free_blocks : ℕ → Bytes → ℕ
free_blocks n t = total (free_at n t)

-- the nodes from block b on, end to end; at most k of them
abbrev pub scan : ℕ → Bytes → ℕ → ℕ → List Run
scan n t zero b = []
scan n t (suc k) b = cond (ltb b n) (run b (size_at t b) ∷ scan n t k (b + size_at t b)) []

-- all nodes
abbrev pub nodes : ℕ → Bytes → List Run
nodes n t = scan n t n 0

-- 1 where the node at block b starts a chain that is not the free one, else 0
unfoldable pub starts : Bytes → ℕ → ℕ
starts t b = cond (eqb (prev_at t b) 0) (cond (eqb (head_at t) (b + 1)) 0 1) 0

-- how many nodes of the list start such a chain
abbrev pub starts_of : Bytes → List Run → ℕ
starts_of t [] = 0
starts_of t (r ∷ l) = starts t r.start + starts_of t l

-- the number of chains other than the free one
abbrev pub other_chains : ℕ → Bytes → ℕ
other_chains n t = starts_of t (nodes n t)
