-- What the readers of a node and of the head answer.
use Rattle.std.specs.Prelude.{ℕ, ◌+◌, ◌≡◌, Result, Ok, Err, Option, Some, None}
use Rattle.fat_node.specs.Entry.{Bytes, v_at}
use Rattle.fat_node.specs.Node.{NodeAt, prev_at, next_at, HeadForm}
use Rattle.order.specs.Answer.{unbroken}
use Rattle.order.specs.declared.Fault.{Fault}
use Rattle.fat_node.specs.Fault.{node_fault, span_fault}
use Rattle.fat_node.specs.declared.Node.{Node}

-- what can't be read is no node of any size, and f says the first rule that is broken, and where
pub record Unread (t : Bytes) (n b : ℕ) (f : Fault) : Type 0 where
  pub first : f ≡ node_fault n t b
  pub broken : f.rule ≡ 0 → ⊥
  pub none : (s : ℕ) → NodeAt t n b s → ⊥

-- of a node of several blocks the size is read where rules 2 to 5 hold; else f says the first of them that is broken
abbrev pub SizeReads : Bytes → ℕ → ℕ → Result ℕ Fault → Type 0
SizeReads t n b (Ok size) = (span_fault n t b ≡ unbroken) × (b + size ≡ v_at t (b + 2))
SizeReads t n b (Err f) = (f ≡ span_fault n t b) × (f.rule ≡ 0 → ⊥)

-- a node is read where one stands, with its size and its links
abbrev pub Reads : Bytes → ℕ → ℕ → Result Node Fault → Type 0
Reads t n b (Ok node) = NodeAt t n b node.size × (node.prev ≡ prev_at t b) × (node.next ≡ next_at t b)
Reads t n b (Err f) = Unread t n b f

-- the first free node is read where the head has its form
abbrev pub HeadReads : Bytes → Option ℕ → Type 0
HeadReads t (Some i) = HeadForm t × (i ≡ v_at t 0)
HeadReads t None = HeadForm t → ⊥
