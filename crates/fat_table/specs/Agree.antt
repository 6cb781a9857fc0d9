-- Two tables that are the same in every entry that the rules read.
use Rattle.std.specs.Prelude.{◌≡◌, ℕ, ◌+◌, ◌<◌, length}
use Rattle.fat_node.specs.Entry.{Bytes, get}
use Rattle.fat_node.specs.Node.{NodeAt}
use Rattle.fat_table.specs.Sound.{IsNode}

-- the one, two or three entries of the node of s blocks from b are the same in both tables
pub record SameNode (t t' : Bytes) (b s : ℕ) : Type 0 where
  pub start : get t (b + 1) ≡ get t' (b + 1)
  pub second : 1 < s → get t (b + 2) ≡ get t' (b + 2)
  pub last : 1 < s → get t (b + s) ≡ get t' (b + s)

-- t is as t' in entry 0 and in the entries of every node of t', and has its length
pub record Agree (n : ℕ) (t t' : Bytes) : Type 0 where
  pub room : length t ≡ length t'
  pub head : get t 0 ≡ get t' 0
  pub node : (b s : ℕ) → IsNode t' n b → NodeAt t' n b s → SameNode t t' b s
