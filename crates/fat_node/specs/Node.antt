-- A node of the block table, a run of blocks with its links, and the head.
use Rattle.std.specs.Prelude.{ℕ, ◌+◌, ◌%◌, ◌<◌, ◌≤◌, ◌≡◌, cond, eqb}
use Rattle.fat_node.specs.Entry.{Bytes, Entry, entry, put, top, u_at, v_at}

-- s blocks from block b
pub record Run : Type 0 where
  pub start : ℕ
  pub size : ℕ

-- the same, by the numbers
abbrev pub run : (b s : ℕ) → Run
run b s = record { start = b; size = s }

-- the index of the previous node of a node that starts at block b
abbrev pub prev_at : (t : Bytes) (b : ℕ) → ℕ
prev_at t b = u_at t (b + 1) % top

-- the index of its next
abbrev pub next_at : (t : Bytes) (b : ℕ) → ℕ
next_at t b = v_at t (b + 1) % top

-- entry e is held by the node of s blocks from b: u = (b + 1, flag 1), v = (b + s, flag 0)
abbrev pub HeldBy : (t : Bytes) (e b s : ℕ) → Type 0
HeldBy t e b s = (u_at t e ≡ top + (b + 1)) × (v_at t e ≡ b + s)

-- a node of s blocks stands at block b, of n
pub record NodeAt (t : Bytes) (n b s : ℕ) : Type 0 where
  pub some : 0 < s
  pub within : b + s ≤ n
  -- the flag of u is set exactly when there is no previous: the flag alone, or an index alone
  pub prev : (0 < u_at t (b + 1)) × (u_at t (b + 1) ≤ top)
  -- the flag of v is set exactly when s is not 1
  pub one : s ≡ 1 → v_at t (b + 1) < top
  pub more : 1 < s → (top ≤ v_at t (b + 1)) × HeldBy t (b + 2) b s × HeldBy t (b + s) b s

-- the half that holds a node's previous: the flag is set exactly when there is none
unfoldable pub prev_half : ℕ → ℕ
prev_half p = cond (eqb p 0) top p

-- the half that holds a node's next: the flag is set exactly when the size is not 1
unfoldable pub next_half : (s q : ℕ) → ℕ
next_half s q = cond (eqb s 1) q (top + q)

-- a node's start entry, with the indexes of its previous and its next
abbrev pub start_entry : (r : Run) (p q : ℕ) → Entry
start_entry r p q = entry (prev_half p) (next_half r.size q)

-- its second entry and its last, if it has 2 blocks or more
abbrev pub span_entry : Run → Entry
span_entry r = entry (top + (r.start + 1)) (r.start + r.size)

-- the table with a node's one, two or three entries written
unfoldable pub set_node : (t : Bytes) (r : Run) (p q : ℕ) → Bytes
set_node t r p q =
    cond (eqb r.size 1)
    (put t (r.start + 1) (start_entry r p q))
    (put (put (put t (r.start + 1) (start_entry r p q)) (r.start + 2) (span_entry r)) (r.start + r.size) (span_entry r))

-- the head has its form: u is 0 and the flag of v is clear
abbrev pub HeadForm : Bytes → Type 0
HeadForm t = (u_at t 0 ≡ 0) × (v_at t 0 < top)

-- the table with the head written: the index of the first free node
unfoldable pub set_head : (t : Bytes) (i : ℕ) → Bytes
set_head t i = put t 0 (entry 0 i)
