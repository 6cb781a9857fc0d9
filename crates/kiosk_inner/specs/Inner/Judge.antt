-- What is asked of the tables, and what each rule's test says.
use Rattle.std.specs.Prelude.{◌≡◌, List, Bool, true, false, ℕ, ◌+◌, ◌≤◌, length, replicate}
use Rattle.links.specs.Links.{Holds}
use Rattle.fat_node.specs.Entry.{Bytes}
use Rattle.fat_node.specs.Node.{prev_at, next_at}
use Rattle.tree_table.specs.Field.{field, next_field, sub_dir_field}
use Rattle.tree_table.specs.View.{Reaches}
use Rattle.audit_inner.specs.Findings.{findings}
use Rattle.audit_inner.specs.Volume.{subject}
use Rattle.audit_inner.specs.Inner.Marks.{Ready, Dead}
use Rattle.kiosk_inner.specs.Profile.{LiveDir, simple, name_of, Broken}

-- the directory whose inode directory y names
abbrev pub above : Bytes → ℕ → ℕ
above d y = field 40 d y 1

-- what is asked of the directories: the root is one and has no parent, its list holds its directories, every other reaches it
pub record Rooted (d : Bytes) : Type 0 where
  pub room : 80 ≤ length d
  pub root : above d 1 ≡ 0
  pub list : Holds (λ y. field 40 d y next_field) (field 40 d 1 sub_dir_field) (λ y. LiveDir d y × (above d y ≡ 1))
  pub parents : (y : ℕ) → LiveDir d y → (y ≡ 1 → ⊥) → LiveDir d (above d y)
  pub reach : (y : ℕ) → LiveDir d y → Reaches (above d) y

-- what the test asks for: sound tables of both layers, blocks of l bytes
pub record ReadyProfile (n : ℕ) (t : Bytes) (l : ℕ) (d f : Bytes) : Type 0 where
  pub audit : Ready n t l f
  pub dirs : Rooted d

-- r says whether P
pub record Decides (r : Bool) (P : Type 0) : Type 0 where
  pub yes : r ≡ true → P
  pub no : r ≡ false → P → ⊥

-- r says whether the node at block b is the first of a chain, other than the one at index head, that has another node
pub record GoesOn (t : Bytes) (head b : ℕ) (r : Bool) : Type 0 where
  pub yes : r ≡ true → (prev_at t b ≡ 0) × (head ≡ b + 1 → ⊥) × (next_at t b ≡ 0 → ⊥)
  pub no : r ≡ false → prev_at t b ≡ 0 → (head ≡ b + 1 → ⊥) → next_at t b ≡ 0

-- r says whether file y has another name than a simple one and no mark
pub record OddAt (f : Bytes) (y m : ℕ) (r : Bool) : Type 0 where
  pub yes : r ≡ true → (m ≡ 0) × (simple (name_of f y) ≡ false)
  pub no : r ≡ false → m ≡ 0 → simple (name_of f y) ≡ true

-- what the audit finds is counted, and the removed inodes are marked
pub record Counted (n : ℕ) (t : Bytes) (l : ℕ) (f : Bytes) (work' : List ℕ) (found : ℕ) : Type 0 where
  pub count : found ≡ length (findings (subject n t l f))
  pub dead : Dead n f work'

-- the whole test, and the work list cleared
pub record ProfileSays (n : ℕ) (t : Bytes) (l : ℕ) (d f : Bytes) (work work' : List ℕ) (rule : ℕ) : Type 0 where
  pub says : Broken n t l d f rule
  pub clear : work' ≡ replicate (length work) 0
