-- What the audit reads of the tables: the file record among the carried bytes, the live files, the first blocks of the file chains.
use Rattle.std.specs.Prelude.{List, [], ◌∷◌, Bool, cond, ◌&&◌, not, ℕ, ◌+◌, ◌*◌, eqb, ltb}
use Rattle.links.specs.Change.{walk}
use Rattle.fat_node.specs.Entry.{Bytes}
use Rattle.fat_node.specs.Node.{Run}
use Rattle.fat_table.specs.Chain.{total, file_at}
use Rattle.fat_table.specs.Counts as counts
use Rattle.tree_table.specs.Chain.{member}
use Rattle.tree_table.specs.Field.{field, collision_field, count_field, carried_field}
use Rattle.audit_inner.specs.Findings.{Subject}

-- the record of file y in the file table f: its first block is the u32 at byte 28 of the entry, its size the u64 at byte 32 (RULES 5.1)
unfoldable pub record_block : Bytes → ℕ → ℕ
record_block f y = field 48 f y (carried_field 1)

unfoldable pub record_size : Bytes → ℕ → ℕ
record_size f y = field 48 f y (carried_field 2) + 4294967296 * field 48 f y (carried_field 3)

-- the first inode never used, and the removed ones
unfoldable pub count_of : Bytes → ℕ
count_of f = field 48 f 0 count_field

unfoldable pub removed_files : Bytes → List ℕ
removed_files f = walk (λ y. field 48 f y collision_field) (field 48 f 0 count_field) (field 48 f 0 collision_field)

-- whether an inode is live: from 1 below the count, and not removed (RULES 5.5)
unfoldable pub is_live : Bytes → ℕ → Bool
is_live f y = ltb 0 y && (ltb y (count_of f) && not (member y (removed_files f)))

-- the first blocks of the file chains among some nodes
abbrev pub firsts_of : Bytes → List Run → List ℕ
firsts_of t [] = []
firsts_of t (r ∷ l) = cond (eqb (counts.starts t r.start) 1) (r.start ∷ firsts_of t l) (firsts_of t l)

-- and among all nodes, rising
abbrev pub firsts : ℕ → Bytes → List ℕ
firsts n t = firsts_of t (counts.nodes n t)

-- how many blocks the file chain has that starts at block b, 0 where none does
unfoldable pub chain_of : ℕ → Bytes → ℕ → ℕ
chain_of n t b = cond (member b (firsts n t)) (total (file_at n t b)) 0

-- the subject of an audit of n blocks of l bytes and the file table f, with these chains
abbrev pub subject_of : (chain : ℕ → ℕ) (n l : ℕ) (f : Bytes) → Subject
subject_of chain n l f = record {
  blocks = n;
  each = l;
  count = count_of f;
  live = is_live f;
  block = record_block f;
  size = record_size f;
  chain = chain;
}

-- and with those of the block table t
abbrev pub subject : (n : ℕ) (t : Bytes) (l : ℕ) (f : Bytes) → Subject
subject n t l f = subject_of (chain_of n t) n l f
