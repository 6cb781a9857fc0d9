-- A step as the few writes that the code makes.
use Rattle.std.specs.Prelude.{cond, ℕ, zero, suc, ◌+◌, ◌-◌, eqb}
use Rattle.fat_node.specs.Entry.{Bytes}
use Rattle.fat_node.specs.Node.{run, prev_at, next_at, set_node, set_head}
use Rattle.fat_table.specs.Chain.{size_at}

-- the node that an index names, if it names one, gets p for its previous
unfoldable pub with_prev : Bytes → ℕ → ℕ → Bytes
with_prev t zero p = t
with_prev t (suc b) p = set_node t (run b (size_at t b)) p (next_at t b)

-- the chain whose last node is at block y goes on with the chain that index i starts
unfoldable pub join_at : Bytes → ℕ → ℕ → Bytes
join_at t y i = set_node (with_prev t i (y + 1)) (run y (size_at t y)) (prev_at t y) i

-- a chain ends after the node at block b, and what comes after is free
unfoldable pub end_at : Bytes → ℕ → Bytes
end_at t b = set_head (set_node (with_prev t (next_at t b) 0) (run b (size_at t b)) (prev_at t b) 0) (next_at t b)

-- a chain ends after m blocks of the node at block b, and the rest of it and what comes after is free
unfoldable pub split_at : Bytes → ℕ → ℕ → Bytes
split_at t b m =
    set_head
    (set_node (set_node (with_prev t (next_at t b) (b + m + 1)) (run b m) (prev_at t b) 0) (run (b + m) (size_at t b - m)) 0 (next_at t b))
    (b + m + 1)

-- one or the other, by whether the m blocks are all of the node
unfoldable pub cut_at : Bytes → ℕ → ℕ → Bytes
cut_at t b m = cond (eqb m (size_at t b)) (end_at t b) (split_at t b m)
