-- The free chain in rising order with no two nodes touching, and the table with it.
use Rattle.std.specs.Prelude.{List, [], ◌∷◌, Bool, true, false, cond, ℕ, zero, suc, ◌+◌, ◌≤◌, eqb}
use Rattle.fat_node.specs.Entry.{Bytes}
use Rattle.fat_node.specs.Node.{Run, run}
use Rattle.fat_table.specs.Chain.{free_at}
use Rattle.fat_table.specs.Layout.{covers}
use Rattle.fat_table.specs.Steps.{relaid}
use Rattle.fat_carve.specs.Entries.{chain_entries}

-- block b put before the run r and the runs l behind it: joined to r, or a run of its own
abbrev pub before_run : Bool → ℕ → Run → List Run → List Run
before_run true b r l = run b (suc r.size) ∷ l
before_run false b r l = run b 1 ∷ (r ∷ l)

-- block b put before some runs: joined to the first where that starts right behind b
abbrev pub before : ℕ → List Run → List Run
before b [] = run b 1 ∷ []
before b (r ∷ l) = before_run (eqb r.start (suc b)) b r l

-- the longest stretches of blocks at which c is not 0, of the k blocks from b on, rising
abbrev pub stretches : ℕ → ℕ → (ℕ → ℕ) → List Run
stretches zero b c = []
stretches (suc k) b c = cond (eqb (c b) 0) (stretches k (suc b) c) (before b (stretches k (suc b) c))

-- the longest stretches of free blocks of a table of n blocks, rising
unfoldable pub tidied : ℕ → Bytes → List Run
tidied n t = stretches n 0 (λ x. covers x (free_at n t))

-- the table with these for its free chain
unfoldable pub merged : ℕ → Bytes → Bytes
merged n t = relaid t [] (tidied n t)

-- the entries that the merge may write, beside entry 0: those of the new free nodes
abbrev pub merge_entries : ℕ → Bytes → List ℕ
merge_entries n t = chain_entries (tidied n t)

-- runs that rise from block b on with a gap between any two
abbrev pub Spread : ℕ → List Run → Type 0
Spread b [] = Unit {0}
Spread b (r ∷ l) = (b ≤ r.start) × Spread (suc (r.start + r.size)) l
