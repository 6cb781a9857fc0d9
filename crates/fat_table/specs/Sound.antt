-- Soundness of the block table, sentence by sentence as RULES 3.4 has it, and what the test of it answers.
use Rattle.std.specs.Prelude.{◌≡◌, ℕ, ◌+◌, ◌<◌}
use Rattle.fat_node.specs.Entry.{Bytes, v_at}
use Rattle.fat_node.specs.Node.{NodeAt, prev_at, next_at, HeadForm}

-- from block 0, node after node, one comes to c: a node is due there, or c is the end
pub data Starts (t : Bytes) (n : ℕ) : ℕ → Type 0 where
  begin : Starts t n 0
  after : {b s c : ℕ} → Starts t n b → NodeAt t n b s → c ≡ b + s → Starts t n c

-- a node is due at block b, of n
abbrev pub IsNode : Bytes → ℕ → ℕ → Type 0
IsNode t n b = Starts t n b × (b < n)

-- the nodes from block 0 on cover the blocks end to end: wherever one is due, one stands
abbrev pub Covered : Bytes → ℕ → Type 0
Covered t n = (b : ℕ) → IsNode t n b → (s : ℕ) × NodeAt t n b s

-- j is i, or is come to from i by following `next`
pub data Path (next : ℕ → ℕ) (i : ℕ) : ℕ → Type 0 where
  here : Path next i i
  on : {j m : ℕ} → Path next i j → next j ≡ m + 1 → Path next i m

-- node j is reached from a node with no previous
pub record Reached (t : Bytes) (n j : ℕ) : Type 0 where
  pub start : ℕ
  pub node : IsNode t n start
  pub first : prev_at t start ≡ 0
  pub path : Path (next_at t) start j

-- a table of n blocks is sound
pub record Sound (t : Bytes) (n : ℕ) : Type 0 where
  -- the head has its form
  pub head : HeadForm t
  -- the nodes cover blocks 0 to n - 1 end to end
  pub covered : Covered t n
  -- each next names a node whose previous names it back, and the reverse
  pub forth : (b j : ℕ) → IsNode t n b → next_at t b ≡ j + 1 → IsNode t n j × (prev_at t j ≡ b + 1)
  pub back : (b j : ℕ) → IsNode t n b → prev_at t b ≡ j + 1 → IsNode t n j × (next_at t j ≡ b + 1)
  -- every node is reached from a node with no previous
  pub whole : (b : ℕ) → IsNode t n b → Reached t n b
  -- the head names none or a node with no previous
  pub free : (j : ℕ) → v_at t 0 ≡ j + 1 → IsNode t n j × (prev_at t j ≡ 0)

-- m is the sum of the sizes of the nodes along the chain from index i
pub data Along (t : Bytes) (n : ℕ) : ℕ → ℕ → Type 0 where
  end : Along t n 0 0
  node : {b s m : ℕ} → NodeAt t n b s → Along t n (next_at t b) m → Along t n (b + 1) (s + m)

-- c of the numbers below n have P
pub data Counted (P : ℕ → Type 0) : ℕ → ℕ → Type 0 where
  none : Counted P 0 0
  one : {n c : ℕ} → Counted P n c → P n → Counted P (n + 1) (c + 1)
  skip : {n c : ℕ} → Counted P n c → (P n → ⊥) → Counted P (n + 1) c

-- block b starts a chain that is not the free one: it is a file's first block
abbrev pub File : Bytes → ℕ → ℕ → Type 0
File t n b = IsNode t n b × (prev_at t b ≡ 0) × (v_at t 0 ≡ b + 1 → ⊥)
