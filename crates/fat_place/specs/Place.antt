-- The two steps that lay a window of the free chain as a file of one node.
use Rattle.std.specs.Prelude.{[], ◌∷◌, ◌++◌, ℕ}
use Rattle.fat_node.specs.Entry.{Bytes}
use Rattle.fat_node.specs.Node.{run}
use Rattle.fat_table.specs.Chain.{total, free_at, file_at}
use Rattle.fat_table.specs.Steps.{relaid}
use Rattle.fat_carve.specs.Carve.{carved}

-- the file at block b moved to the blocks from m on, in one node; its old nodes go before the free front, in their order
unfoldable pub applied : ℕ → Bytes → ℕ → ℕ → Bytes
applied n t b m =
    relaid t (run m (total (file_at n t b)) ∷ []) (file_at n t b ++ carved m (total (file_at n t b)) (free_at n t))

-- a file of the c free blocks from m on, in one node
unfoldable pub placed : ℕ → Bytes → ℕ → ℕ → Bytes
placed n t m c = relaid t (run m c ∷ []) (carved m c (free_at n t))
