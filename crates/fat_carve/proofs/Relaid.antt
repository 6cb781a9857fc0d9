-- Chains laid anew: every byte outside entry 0 and the entries of their nodes stays.
use mathlib.Core.Path.{◌≡◌, refl, ◌∙◌}
use mathlib.Core.List.{List, [], ◌∷◌, ◌++◌}
use Prim.Native.Nat.{ℕ, suc}
use Rattle.words.proofs.Laws as words
use Rattle.links.specs.Links.{◌∈◌}
use Rattle.links.proofs.Way.{in_left, in_right}
use Rattle.fat_node.specs.Entry.{Bytes, get}
use Rattle.fat_node.specs.Node.{Run, set_node}
use Rattle.fat_node.proofs.Nodes.{set_head_other}
use Rattle.fat_table.specs.Steps.{first, lay, relaid}
use Rattle.fat_table.specs.Changes.{Kept, entries_of}
use Rattle.fat_table.proofs.Kept.{KeptEntries, kept_bytes, set_node_keeps}
use Rattle.fat_table.proofs.Files.{bytes_relaid}
use Rattle.fat_carve.specs.Entries.{chain_entries}

-- a chain that is laid: the entries of its nodes
pub lay_keeps : (l : List Run) (p : ℕ) (t : Bytes) (e : ℕ) → (e ∈ chain_entries l → ⊥) → get (lay l p t) e ≡ get t e
lay_keeps [] p t e g = refl
lay_keeps (r ∷ l) p t e g =
    lay_keeps l (suc r.start) (set_node t r p (first l)) e (λ m. g (in_right e (entries_of r) (chain_entries l) m))
    ∙ set_node_keeps t r p (first l) e (λ m. g (in_left e (entries_of r) (chain_entries l) m))

-- a file and the free chain that are laid, and the head
relaid_keeps : (t : Bytes) (file free : List Run) → KeptEntries (chain_entries file ++ chain_entries free) t (relaid t file free)
relaid_keeps t file free e pos g =
    set_head_other (lay free 0 (lay file 0 t)) (first free) e pos
    ∙ lay_keeps free 0 (lay file 0 t) e (λ m. g (in_right e (chain_entries file) (chain_entries free) m))
    ∙ lay_keeps file 0 t e (λ m. g (in_left e (chain_entries file) (chain_entries free) m))

pub relaid_kept : (t : Bytes) (file free : List Run) → words.Bytes t → Kept (chain_entries file ++ chain_entries free) t (relaid t file free)
relaid_kept t file free b = kept_bytes (chain_entries file ++ chain_entries free) t (relaid t file free) b (bytes_relaid t file free b) (relaid_keeps t file free)
