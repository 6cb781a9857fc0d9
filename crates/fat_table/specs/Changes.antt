-- The entries that a step may write, beside entry 0. Every byte outside them and entry 0 keeps its value, also in the nodes that the step changes: a node
-- whose links change is written in its first entry alone, and a node that is split in the entries of its two parts.
use Rattle.std.specs.Prelude.{◌≡◌, List, [], ◌∷◌, ◌++◌, cond, ℕ, ◌+◌, ◌-◌, ◌/◌, ◌≤◌, eqb, leb, ltb, get_or}
use Rattle.links.specs.Links.{◌∈◌}
use Rattle.fat_node.specs.Entry.{Bytes}
use Rattle.fat_node.specs.Node.{Run, run}
use Rattle.fat_table.specs.Chain.{total, free_at, file_at}
use Rattle.fat_table.specs.Layout.{taken, left}

-- t' has the bytes of t everywhere but in entry 0 and in these entries
abbrev pub Kept : List ℕ → Bytes → Bytes → Type 0
Kept l t t' = (i : ℕ) → 8 ≤ i → (i / 8 ∈ l → ⊥) → get_or t' i 0 ≡ get_or t i 0

-- the one, two or three entries of a node
abbrev pub entries_of : Run → List ℕ
entries_of r = cond (eqb r.size 1) ((r.start + 1) ∷ []) ((r.start + 1) ∷ (r.start + 2) ∷ (r.start + r.size) ∷ [])

-- the first entry, the one with the links, of a chain's first node
abbrev pub first_entry : List Run → List ℕ
first_entry [] = []
first_entry (r ∷ l) = (r.start + 1) ∷ []

-- and of its last node
abbrev pub last_entry : List Run → List ℕ
last_entry [] = []
last_entry (r ∷ []) = (r.start + 1) ∷ []
last_entry (r ∷ s ∷ l) = last_entry (s ∷ l)

-- two chains made one, or one made two between two nodes: the links on both sides of the place; none where one side has no node
abbrev pub link_entries : List Run → List Run → List ℕ
link_entries [] b = []
link_entries (r ∷ a) [] = []
link_entries (r ∷ a) (s ∷ b) = last_entry (r ∷ a) ++ first_entry (s ∷ b)

-- a chain cut after c blocks: between two nodes the links on both sides; within a node the entries of its two parts and the links of the node behind it
abbrev pub cut_entries : List Run → ℕ → List ℕ
cut_entries [] c = []
cut_entries (r ∷ l) c =
    cond (eqb c r.size) (link_entries (r ∷ []) l)
    (cond (ltb c r.size) (entries_of (run r.start c) ++ (entries_of (run (r.start + c) (r.size - c)) ++ first_entry l)) (cut_entries l (c - r.size)))

-- create: the free chain is cut
abbrev pub create_entries : ℕ → Bytes → ℕ → List ℕ
create_entries n t c = cut_entries (free_at n t) c

-- delete: the file and the free chain are linked
abbrev pub delete_entries : ℕ → Bytes → ℕ → List ℕ
delete_entries n t b = link_entries (file_at n t b) (free_at n t)

-- grow by c: the free chain is cut, the file and what is taken are linked
abbrev pub grow_entries : ℕ → Bytes → ℕ → ℕ → List ℕ
grow_entries n t b c = cut_entries (free_at n t) c ++ link_entries (file_at n t b) (taken (free_at n t) c)

-- shrink to c: the file is cut, what is cut off and the free chain are linked
abbrev pub shrink_entries : ℕ → Bytes → ℕ → ℕ → List ℕ
shrink_entries n t b c = cut_entries (file_at n t b) c ++ link_entries (left (file_at n t b) c) (free_at n t)

-- resize to c: none where c is the present count
abbrev pub resize_entries : ℕ → Bytes → ℕ → ℕ → List ℕ
resize_entries n t b c =
    cond (eqb c (total (file_at n t b))) []
    (cond (leb c (total (file_at n t b))) (shrink_entries n t b c) (grow_entries n t b (c - total (file_at n t b))))
