-- The parts of the sentence that a table is reached within so many calls.
use Rattle.std.specs.Prelude.{◌≡◌, ℕ, ◌*◌, ◌/◌, ◌≤◌, length}
use Rattle.fat_node.specs.Entry.{Bytes}
use Rattle.fat_node.specs.Sizes.{blocks}
use Rattle.fat_table.specs.Counts.{nodes}
use Rattle.fat_table.specs.Agree.{Agree}
use Rattle.fat_history.specs.History.{History, resizes_in}

-- the number of nodes of a table: those from block 0 on, end to end
abbrev pub node_count : Bytes → ℕ
node_count t = length (nodes (blocks t) t)

-- calls that are enough for every table of k nodes: five for every two nodes, and so at most three a node
abbrev pub most_calls : ℕ → ℕ
most_calls k = 5 * k / 2

-- some run of at most so many calls after format, create and delete alone, each answered Done, ends in a table equal to t in every entry that the rules read
pub record ReachedWithin (most : ℕ) (t : Bytes) : Type 0 where
  pub calls : ℕ
  pub end : Bytes
  pub run_to : History calls end
  pub few : calls ≤ most
  pub plain : resizes_in run_to ≡ 0
  pub agrees : Agree (blocks t) t end
