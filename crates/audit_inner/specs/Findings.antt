-- The audit's findings: where the files' records and the chains of the block table disagree (RULES 6.16). What is read of the two layers is a Subject;
-- the list is one definition over the inodes and one over the blocks.
use Rattle.std.specs.Prelude.{List, [], ◌∷◌, ◌++◌, Bool, true, false, ◌&&◌, ◌||◌, not, ℕ, zero, suc, ◌*◌, eqb, ltb}

-- what the audit reads of a volume
pub record Subject : Type 0 where
  -- the blocks, a block's length, the first inode never used
  pub blocks : ℕ
  pub each : ℕ
  pub count : ℕ
  -- whether a file's inode is live, the first block and the size that its record names
  pub live : ℕ → Bool
  pub block : ℕ → ℕ
  pub size : ℕ → ℕ
  -- how many blocks the file chain has whose first block is b; 0 where b is no file chain's first
  pub chain : ℕ → ℕ

-- a finding: its kind, then the inode (kinds 1 to 3) or the first block (kind 4)
pub record Finding : Type 0 where
  pub kind : ℕ
  pub number : ℕ

abbrev pub finding : (kind number : ℕ) → Finding
finding kind number = record { kind = kind; number = number }

-- a live file of size above 0: only such a file names a chain
unfoldable pub full : Subject → ℕ → Bool
full S y = S.live y && ltb 0 (S.size y)

-- file y names the chain whose first block is b
unfoldable pub names : Subject → ℕ → ℕ → Bool
names S y b = full S y && eqb (S.block y) b

-- a file of inode below y names it
abbrev pub named : Subject → ℕ → ℕ → Bool
named S zero b = false
named S (suc y) b = names S y b || named S y b

-- block b is a file chain's first
unfoldable pub starts : Subject → ℕ → Bool
starts S b = ltb 0 (S.chain b)

-- kind 1: the file's block is no file chain's first
unfoldable pub astray : Subject → ℕ → Bool
astray S y = full S y && not (starts S (S.block y))

-- kind 2: a file of lower inode and size above 0 names the same chain
unfoldable pub shared : Subject → ℕ → Bool
shared S y = full S y && (starts S (S.block y) && named S y (S.block y))

-- kind 3: its size is over the chain's blocks times the block length, a number with no bound
unfoldable pub over : Subject → ℕ → Bool
over S y = full S y && (starts S (S.block y) && ltb (S.chain (S.block y) * S.each) (S.size y))

-- kind 4: a file chain that no file names
unfoldable pub lost : Subject → ℕ → Bool
lost S b = starts S b && not (named S S.count b)

-- a finding, where it applies
abbrev pub when : Bool → Finding → List Finding
when true f = f ∷ []
when false f = []

-- those of the files of inode below y, in the order of inodes, and of one file by kind
abbrev pub file_findings : Subject → ℕ → List Finding
file_findings S zero = []
file_findings S (suc y) = file_findings S y ++ (when (astray S y) (finding 1 y) ++ (when (shared S y) (finding 2 y) ++ when (over S y) (finding 3 y)))

-- those of the blocks below b, in their order
abbrev pub block_findings : Subject → ℕ → List Finding
block_findings S zero = []
block_findings S (suc b) = block_findings S b ++ when (lost S b) (finding 4 b)

-- all of them
unfoldable pub findings : Subject → List Finding
findings S = file_findings S S.count ++ block_findings S S.blocks

-- as they stand in the list: two places each
abbrev pub flat : List Finding → List ℕ
flat [] = []
flat (f ∷ fs) = f.kind ∷ f.number ∷ flat fs
