-- What a reader wants to know of the findings, in the words of the two layers.
use Rattle.std.specs.Prelude.{◌≡◌, List, [], ◌∷◌, Bool, cond, ◌&&◌, ℕ, zero, suc, ◌+◌, ◌*◌, ◌≤◌, ◌<◌, eqb, ltb}
use Rattle.fat_node.specs.Entry.{Bytes}
use Rattle.fat_table.specs.Sound.{File}
use Rattle.fat_table.specs.Chain.{total, file_at}
use Rattle.tree_table.specs.View.{LiveIn}
use Rattle.tree_sound.specs.Tables.{Tables, files}
use Rattle.audit_inner.specs.Findings.{Subject, Finding, astray, shared, over, lost}
use Rattle.audit_inner.specs.Volume.{record_block, record_size}

-- file y is live and its size is above 0
abbrev pub Full : (s : Tables) (y : ℕ) → Type 0
Full s y = LiveIn (files s) y × (0 < record_size s.file_table y)

-- no disagreement: every file of size above 0 has a chain of its own that is long enough, and every chain has its file. n blocks of l bytes
pub record Clean (n : ℕ) (t : Bytes) (l : ℕ) (s : Tables) : Type 0 where
  pub chain : (y : ℕ) → Full s y → File t n (record_block s.file_table y)
  pub own : (y z : ℕ) → Full s y → Full s z → record_block s.file_table y ≡ record_block s.file_table z → y ≡ z
  pub enough : (y : ℕ) → Full s y → record_size s.file_table y ≤ total (file_at n t (record_block s.file_table y)) * l
  pub named : (b : ℕ) → File t n b → (y : ℕ) × Full s y × (record_block s.file_table y ≡ b)

-- how often a finding stands in a list
abbrev pub times : (kind number : ℕ) → List Finding → ℕ
times k x [] = 0
times k x (f ∷ fs) = cond (eqb f.kind k && eqb f.number x) 1 0 + times k x fs

-- 1 where it is so, else 0
abbrev pub bit : Bool → ℕ
bit t = cond t 1 0
