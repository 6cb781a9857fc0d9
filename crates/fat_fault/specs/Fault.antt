-- Where a block table is broken (RULES 3.6): the first of seven rules that does not hold, and the entry that it blames. n is the number of blocks, t the
-- table, b a block, i an index.
use Rattle.std.specs.Prelude.{List, [], ◌∷◌, Bool, true, false, cond, not, ◌&&◌, ◌||◌, ℕ, zero, suc, ◌+◌, eqb, ltb}
use Rattle.order.specs.Answer.{fault, unbroken}
use Rattle.order.specs.declared.Fault.{Fault}
use Rattle.fat_node.specs.Entry.{Bytes, top, u_at}
use Rattle.fat_node.specs.Node.{Run, prev_at, next_at}
use Rattle.fat_node.specs.Fault.{when, node_fault}
use Rattle.fat_table.specs.Chain.{head_at, size_at}
use Rattle.fat_table.specs.Counts.{nodes}

-- the first fault, or where there is none the second
unfoldable pub or_else : Fault → Fault → Fault
or_else f g = when (eqb f.rule 0) g f

-- ---- rules 1 to 5: the walk

-- the first along the walk from block b, hopping by size; at most k nodes
abbrev pub walk_from : (n : ℕ) (t : Bytes) (k b : ℕ) → Fault
walk_from n t zero b = unbroken
walk_from n t (suc k) b = when (ltb b n) (or_else (node_fault n t b) (walk_from n t k (b + size_at t b))) unbroken

-- the first from block 0 on
unfoldable pub walk_fault : (n : ℕ) (t : Bytes) → Fault
walk_fault n t = walk_from n t n 0

-- ---- rule 6: the head

-- a run of the list starts at block b
abbrev pub starts_at : List Run → ℕ → Bool
starts_at [] b = false
starts_at (r ∷ l) b = eqb r.start b || starts_at l b

-- a node starts at block b
unfoldable pub is_node : (n : ℕ) (t : Bytes) (b : ℕ) → Bool
is_node n t b = starts_at (nodes n t) b

-- an index names none, or a node whose link back is p
unfoldable pub answered : (n : ℕ) (t : Bytes) (link : ℕ → ℕ) (i p : ℕ) → Bool
answered n t link zero p = true
answered n t link (suc j) p = is_node n t j && eqb (link j) p

-- the head has its form, and names none, or a node with no previous
unfoldable pub head_fits : (n : ℕ) (t : Bytes) → Bool
head_fits n t = eqb (u_at t 0) 0 && (ltb (head_at t) top && answered n t (prev_at t) (head_at t) 0)

-- ---- rule 7: the links

-- a link of the node at block b names no node, or one that does not name it back
unfoldable pub loose : (n : ℕ) (t : Bytes) (b : ℕ) → Bool
loose n t b = not (answered n t (prev_at t) (next_at t b) (suc b)) || not (answered n t (next_at t) (prev_at t b) (suc b))

-- an index that names a node; 0 where it names none
unfoldable pub named : (n : ℕ) (t : Bytes) (i : ℕ) → ℕ
named n t zero = zero
named n t (suc j) = cond (is_node n t j) (suc j) zero

-- the index of the node that next names at block b, 0 where it names none
unfoldable pub hop : (n : ℕ) (t : Bytes) (b : ℕ) → ℕ
hop n t b = named n t (next_at t b)

-- from index i one comes to block b by following next; within k nodes
abbrev pub comes : (n : ℕ) (t : Bytes) (k i b : ℕ) → Bool
comes n t zero i b = false
comes n t (suc k) zero b = false
comes n t (suc k) (suc j) b = eqb j b || comes n t k (hop n t j) b

-- one comes back to block b by following next from it (a ring has at most n nodes)
unfoldable pub ringed : (n : ℕ) (t : Bytes) (b : ℕ) → Bool
ringed n t b = comes n t n (hop n t b) b

-- a node stands at block b, and it is loose or in a ring
unfoldable pub untied : (n : ℕ) (t : Bytes) (b : ℕ) → Bool
untied n t b = is_node n t b && (loose n t b || ringed n t b)

-- the lowest such node of k blocks from b
abbrev pub lowest : (n : ℕ) (t : Bytes) (k b : ℕ) → Fault
lowest n t zero b = unbroken
lowest n t (suc k) b = when (untied n t b) (fault (b + 1) 7) (lowest n t k (b + 1))

-- ---- the whole

-- what is found after the walk
unfoldable pub later_fault : (n : ℕ) (t : Bytes) → Fault
later_fault n t = when (head_fits n t) (lowest n t n 0) (fault 0 6)

-- the fault of a table of n blocks: the walk's, then the head's, then the lowest node's; entry 0 and rule 0 where it is sound
unfoldable pub fault_of : (n : ℕ) (t : Bytes) → Fault
fault_of n t = or_else (walk_fault n t) (later_fault n t)
