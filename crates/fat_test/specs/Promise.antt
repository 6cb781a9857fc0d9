-- What the test of the block table promises.
use Rattle.std.specs.Prelude.{List, ℕ, Result, Ok, Err}
use Rattle.order.specs.Gate.{cleared}
use Rattle.order.specs.First.{First}
use Rattle.order.specs.Answer.{Answer}
use Rattle.order.specs.Answer.{Done}
use Rattle.order.specs.declared.Refusal.{Refusal}
use Rattle.fat_node.specs.Entry.{Bytes}
use Rattle.fat_node.specs.declared.Counts.{Counts}
use Rattle.fat_node.specs.Sizes.{blocks}
use Rattle.fat_table.specs.Counts.{free_blocks, other_chains}
use Rattle.fat_test.specs.Gate.{test_gate}

-- what the test answers: of a sound table its free blocks and the number of its other chains, of any other 0 and 0
pub record Tested : Type 0 where
  pub answer : Answer
  pub free : ℕ
  pub files : ℕ

-- the same, by its parts
abbrev pub tested : (answer : Answer) (free files : ℕ) → Tested
tested answer free files = record { answer = answer; free = free; files = files }

-- the same, by what a call gives
abbrev pub tested_by : Result Counts Refusal → Tested
tested_by (Ok c) = tested Done c.free c.files
tested_by (Err why) = tested (Err why) 0 0

-- the test gives its answer, and the work list afterwards; a refusal's counts are 0
abbrev pub test_refused : (answer : Answer) (work : List ℕ) → Tested × List ℕ
test_refused answer work = (tested answer 0 0, work)

-- Done: the free blocks and the number of other chains
abbrev pub test_done : (t : Bytes) (work : List ℕ) → Tested × List ℕ
test_done t work = (tested Done (free_blocks (blocks t) t) (other_chains (blocks t) t), cleared (blocks t) work)

-- the promise of the test: its rows in the order of RULES 2.2, and what Done gives
abbrev pub TestPromise : (t : Bytes) (work : List ℕ) (o : Tested × List ℕ) → Type 0
TestPromise t work o = First (test_gate test_refused t work) (test_done t work) o
