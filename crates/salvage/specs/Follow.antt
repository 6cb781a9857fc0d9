-- One chain of a table of any bytes, followed node by node as far as it can be trusted. n is the number of blocks, t the table, b a block, p the index of the
-- node before it, 0 for none.
use mathlib.Core.List.{List, [], ◌∷◌, ◌++◌, Memᴰ}
use Rattle.std.specs.Prelude.{Bool, cond, ◌&&◌, ℕ, zero, suc, ◌+◌, eqb, ltb}
use Rattle.order.specs.Answer.{fault, unbroken}
use Rattle.order.specs.declared.Fault.{Fault}
use Rattle.fat_node.specs.Entry.{Bytes}
use Rattle.fat_node.specs.Node.{Run, run, prev_at, next_at}
use Rattle.fat_node.specs.Fault.{when, node_fault}
use Rattle.fat_table.specs.Chain.{size_at}
use Rattle.fat_table.specs.Layout.{covers}
use Rattle.fat_table.specs.Agree.{SameNode}

-- a node can be read at block b: it is below n, and none of rules 1 to 5 (RULES 3.6) is broken there
unfoldable pub readable : (n : ℕ) (t : Bytes) (b : ℕ) → Bool
readable n t b = ltb b n && eqb (node_fault n t b).rule 0

-- why none can be read at block b: the first of those rules, or rule 7 of the node before, whose link names no block
unfoldable pub unread : (n : ℕ) (t : Bytes) (p b : ℕ) → Fault
unread n t p b = when (ltb b n) (node_fault n t b) (fault p 7)

-- why a node at block b is not taken whose previous is not p: the link of the node before is not named back, which is rule 7; where there is none before,
-- the chain's first node has a previous, for which 8 stands
unfoldable pub missed : (p b : ℕ) → Fault
missed p b = when (eqb p 0) (fault (b + 1) 8) (fault p 7)

-- how often a block of the s from b on is in a run of the list
abbrev pub shared : (s b : ℕ) (l : List Run) → ℕ
shared zero b l = 0
shared (suc s) b l = covers b l + shared s (suc b) l

-- the runs that were followed, in the chain's order, and why there are no more: entry 0 and rule 0 where the chain is whole
pub record Salvage : Type 0 where
  pub runs : List Run
  pub why : Fault

-- the same, by its parts
abbrev pub salvage : (runs : List Run) (why : Fault) → Salvage
salvage runs why = record { runs = runs; why = why }

-- from index i on, where the runs of `seen` were followed and p is the index of the last: a node is taken that can be read, names p back, and shares no block
-- with those before it; at most k nodes
unfoldable pub follow : (k n : ℕ) (t : Bytes) (seen : List Run) (p i : ℕ) → Salvage
follow zero n t seen p i = salvage seen (fault p 7)
follow (suc k) n t seen p zero = salvage seen unbroken
follow (suc k) n t seen p (suc b) =
    cond (readable n t b)
    (cond (eqb (prev_at t b) p)
    (cond (eqb (shared (size_at t b) b seen) 0)
    (follow k n t (seen ++ run b (size_at t b) ∷ []) (suc b) (next_at t b))
    (salvage seen (fault p 7)))
    (salvage seen (missed p b)))
    (salvage seen (unread n t p b))

-- the chain that block b starts. (No more than n nodes share no block, so that the bound of n + 1 is never met: `enough`.)
abbrev pub salvaged : (n : ℕ) (t : Bytes) (b : ℕ) → Salvage
salvaged n t b = follow (suc n) n t [] 0 (suc b)

-- the tables are the same in the one, two or three entries of every node of the list
abbrev pub SameIn : (t t' : Bytes) (l : List Run) → Type 0
SameIn t t' l = (r : Run) → Memᴰ r l → SameNode t t' r.start r.size
