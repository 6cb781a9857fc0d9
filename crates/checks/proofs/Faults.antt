-- Where tables of four blocks are broken, worked out: each rule of RULES 3.6, and its place in the order. The tables stand beside each other as u, v from
-- entry 0 on; the first is sound, a file of one block at 0 and the rest free.
use mathlib.Core.Path.{◌≡◌, refl}
use mathlib.Core.List.{List, [], ◌∷◌}
use Prim.Native.Nat.{ℕ, ◌+◌, ◌/◌, ◌%◌}
use Rattle.words.specs.Word.{word}
use Rattle.order.specs.Answer.{fault}
use Rattle.fat_node.specs.Entry.{Bytes, top, get}
use Rattle.fat_node.specs.Fault.{when, bad_start, bad_second, differs, span_fault, node_fault}
use Rattle.fat_fault.specs.Fault.{or_else, walk_fault, is_node, answered, head_fits, loose, named, hop, ringed, untied, later_fault, fault_of}

-- an index with its flag
abbrev F : ℕ → ℕ
F i = top + i

-- a table by its words
abbrev table : List ℕ → Bytes
table [] = []
table (w ∷ ws) = w % 256 ∷ w / 256 % 256 ∷ w / 65536 % 256 ∷ w / 16777216 ∷ table ws

-- the table with these words is broken at entry e by rule r
abbrev Finds : List ℕ → ℕ → ℕ → Type 0
Finds ws e r = fault_of 4 (table ws) ≡ fault e r

pub sound : Finds (0 ∷ 2 ∷ F 0 ∷ 0 ∷ F 0 ∷ F 0 ∷ F 2 ∷ 4 ∷ F 2 ∷ 4 ∷ []) 0 0
unfolding when bad_start bad_second differs span_fault node_fault or_else walk_fault is_node answered head_fits loose named hop ringed untied later_fault fault_of get word
sound = refl

-- entry 1 has neither a previous nor the mark of none
pub rule_1 : Finds (0 ∷ 2 ∷ 0 ∷ 0 ∷ F 0 ∷ F 0 ∷ F 2 ∷ 4 ∷ F 2 ∷ 4 ∷ []) 1 1
unfolding when bad_start bad_second differs span_fault node_fault or_else walk_fault is_node answered head_fits loose named hop ringed untied later_fault fault_of get word
rule_1 = refl

-- the last block says several
pub rule_2 : Finds (0 ∷ 2 ∷ F 0 ∷ 0 ∷ F 0 ∷ 0 ∷ F 0 ∷ 0 ∷ F 0 ∷ F 0 ∷ []) 4 2
unfolding when bad_start bad_second differs span_fault node_fault or_else walk_fault is_node answered head_fits loose named hop ringed untied later_fault fault_of get word
rule_2 = refl

-- the second entry names another start, and an end over n: its form comes first
pub rule_3 : Finds (0 ∷ 2 ∷ F 0 ∷ 0 ∷ F 0 ∷ F 0 ∷ F 1 ∷ 5 ∷ F 2 ∷ 4 ∷ []) 3 3
unfolding when bad_start bad_second differs span_fault node_fault or_else walk_fault is_node answered head_fits loose named hop ringed untied later_fault fault_of get word
rule_3 = refl

-- an end over n
pub rule_4 : Finds (0 ∷ 2 ∷ F 0 ∷ 0 ∷ F 0 ∷ F 0 ∷ F 2 ∷ 5 ∷ F 2 ∷ 4 ∷ []) 3 4
unfolding when bad_start bad_second differs span_fault node_fault or_else walk_fault is_node answered head_fits loose named hop ringed untied later_fault fault_of get word
rule_4 = refl

-- the end entry says another end; the head has not its form either, but the walk comes first
pub rule_5 : Finds (1 ∷ 2 ∷ F 0 ∷ 0 ∷ F 0 ∷ F 0 ∷ F 2 ∷ 4 ∷ F 2 ∷ 3 ∷ []) 4 5
unfolding when bad_start bad_second differs span_fault node_fault or_else walk_fault is_node answered head_fits loose named hop ringed untied later_fault fault_of get word
rule_5 = refl

-- the head names a block inside a node; entry 1 has a next that does not name it back, but the head comes first
pub rule_6 : Finds (0 ∷ 3 ∷ F 0 ∷ 2 ∷ F 0 ∷ F 0 ∷ F 2 ∷ 4 ∷ F 2 ∷ 4 ∷ []) 0 6
unfolding when bad_start bad_second differs span_fault node_fault or_else walk_fault is_node answered head_fits loose named hop ringed untied later_fault fault_of get word
rule_6 = refl

-- block 1 names block 0, which does not name it back: block 1 is the node
pub rule_7 : Finds (0 ∷ 2 ∷ F 0 ∷ 0 ∷ F 0 ∷ F 1 ∷ F 2 ∷ 4 ∷ F 2 ∷ 4 ∷ []) 2 7
unfolding when bad_start bad_second differs span_fault node_fault or_else walk_fault is_node answered head_fits loose named hop ringed untied later_fault fault_of get word
rule_7 = refl

-- two nodes in a ring whose links all agree
pub ring : Finds (0 ∷ 0 ∷ 2 ∷ 2 ∷ 1 ∷ F 1 ∷ F 2 ∷ 4 ∷ F 2 ∷ 4 ∷ []) 1 7
unfolding when bad_start bad_second differs span_fault node_fault or_else walk_fault is_node answered head_fits loose named hop ringed untied later_fault fault_of get word
ring = refl
