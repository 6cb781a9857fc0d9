-- The entries of a whole chain, for the steps that lay one anew.
use Rattle.std.specs.Prelude.{List, [], ◌∷◌, ◌++◌, ℕ}
use Rattle.fat_node.specs.Node.{Run}
use Rattle.fat_table.specs.Changes.{entries_of}

-- the entries of a chain's nodes, each node's one, two or three
abbrev pub chain_entries : List Run → List ℕ
chain_entries [] = []
chain_entries (r ∷ l) = entries_of r ++ chain_entries l
