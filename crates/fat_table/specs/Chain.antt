-- The chain that an index starts, read from the table node by node.
use Rattle.std.specs.Prelude.{List, [], ◌∷◌, cond, ℕ, zero, suc, ◌+◌, ◌-◌, leb}
use Rattle.fat_node.specs.Entry.{Bytes, top, v_at}
use Rattle.fat_node.specs.Node.{Run, run, next_at}

-- the blocks of a chain: its nodes' sizes, summed
abbrev pub total : List Run → ℕ
total [] = 0
total (r ∷ l) = r.size + total l

-- the index of the first free node, 0 for none
abbrev pub head_at : Bytes → ℕ
head_at t = v_at t 0

-- the size of the node that starts at block b: 1 where the flag of its v is clear, else up to the end that its second entry names
abbrev pub size_at : Bytes → ℕ → ℕ
size_at t b = cond (leb top (v_at t (b + 1))) (v_at t (b + 2) - b) 1

-- the nodes from the one that an index names, each with its size, by their next; at most k of them
abbrev pub chain_at : Bytes → ℕ → ℕ → List Run
chain_at t zero i = []
chain_at t (suc k) zero = []
chain_at t (suc k) (suc b) = run b (size_at t b) ∷ chain_at t k (next_at t b)

-- the free chain of a table of n blocks (no chain has more than n nodes)
abbrev pub free_at : ℕ → Bytes → List Run
free_at n t = chain_at t n (head_at t)

-- the chain of the file whose first block is b
abbrev pub file_at : ℕ → Bytes → ℕ → List Run
file_at n t b = chain_at t n (suc b)
