-- The marks that the audit keeps in the work list: of each block the length of the file chain that starts there, with a flag once a file names it; then
-- of each inode whether it is removed.
use Rattle.std.specs.Prelude.{◌≡◌, List, ◌++◌, Bool, cond, ◌&&◌, not, ◌||◌, ℕ, suc, ◌+◌, ◌*◌, ◌/◌, ◌≤◌, ◌<◌, eqb, ltb, length, get_or, replicate}
use Rattle.std.proofs.lemmas.List.Edits.{sets}
use Rattle.links.specs.Links.{◌∈◌, Links}
use Rattle.fat_node.specs.Entry.{Bytes, top}
use Rattle.fat_walk.specs.Volume.{Volume}
use Rattle.tree_table.specs.Field.{field, collision_field}
use Rattle.tree_marks.specs.Inner.Marks.{gone}
use Rattle.audit_inner.specs.Findings.{Subject, Finding, finding, named, astray, shared, over, when, file_findings, block_findings, findings, flat}
use Rattle.audit_inner.specs.Volume.{count_of, removed_files, is_live, chain_of, subject_of, subject}
use Rattle.audit_inner.specs.Calls.{Audit, AuditSound}
use Rattle.audit_inner.specs.declared.Judged.{Judged}

-- what is asked of the file table: it is sound by itself
pub record Files (f : Bytes) : Type 0 where
  pub some : 1 ≤ count_of f
  pub fits : count_of f ≤ length f / 48
  pub few : length f / 48 ≤ 65536
  pub removed : Links (λ y. field 48 f y collision_field) (field 48 f 0 collision_field) (removed_files f)
  pub below : (y : ℕ) → y ∈ removed_files f → y < count_of f

-- what the audit asks for: a sound block table of n blocks, blocks of l bytes, a sound file table
pub record Ready (n : ℕ) (t : Bytes) (l : ℕ) (f : Bytes) : Type 0 where
  pub volume : Volume n t
  pub few : l ≤ 65536
  pub files : Files f

-- chains of a table of n blocks: none starts at n or later, none is longer than a table
pub record Chains (n : ℕ) (chain : ℕ → ℕ) : Type 0 where
  pub out : (b : ℕ) → n ≤ b → chain b ≡ 0
  pub few : (b : ℕ) → chain b ≤ 1000000

-- the mark of a block where a chain of c blocks starts, flagged where it was named
unfoldable pub mark : (c : ℕ) (was : Bool) → ℕ
mark c was = cond (ltb 0 c && was) (top + c) c

-- the marks of the first n places
pub record Marked (n : ℕ) (chain : ℕ → ℕ) (was : ℕ → Bool) (work : List ℕ) : Type 0 where
  pub at : (b : ℕ) → b < n → get_or work b 0 ≡ mark (chain b) (was b)

-- the places from n on are as they were, and so is the length
pub record Behind (n : ℕ) (work work' : List ℕ) : Type 0 where
  pub long : length work' ≡ length work
  pub rest : (j : ℕ) → n ≤ j → get_or work' j 0 ≡ get_or work j 0

-- the places from n on are 0
pub record Clear (n : ℕ) (work : List ℕ) : Type 0 where
  pub at : (j : ℕ) → n ≤ j → get_or work j 0 ≡ 0

-- each block has the length of the file chain that starts there
pub record Lengths (n : ℕ) (t : Bytes) (work work' : List ℕ) : Type 0 where
  pub at : (b : ℕ) → b < n → get_or work' b 0 ≡ chain_of n t b
  pub behind : Behind n work work'

-- the marks of the inodes: 0 where it is live
pub record Dead (n : ℕ) (f : Bytes) (work : List ℕ) : Type 0 where
  pub room : n + count_of f ≤ length work
  pub at : (y : ℕ) → 0 < y → y < count_of f → get_or work (n + y) 0 ≡ cond (is_live f y) 0 gone

-- no file was looked at: the chains by themselves, and the inodes
pub record Start (n : ℕ) (chain : ℕ → ℕ) (f : Bytes) (work : List ℕ) : Type 0 where
  pub chains : (b : ℕ) → b < n → get_or work b 0 ≡ chain b
  pub dead : Dead n f work

-- what is told of one file of size above 0 that names block b: was says which chains lower inodes name
pub record ChainJudged (n : ℕ) (chain : ℕ → ℕ) (was : ℕ → Bool) (l b size : ℕ) (work' : List ℕ) (r : Judged) : Type 0 where
  pub astray : r.astray ≡ not (ltb 0 (chain b))
  pub shared : r.shared ≡ ltb 0 (chain b) && was b
  pub over : r.over ≡ ltb 0 (chain b) && ltb (chain b * l) size
  pub marked : Marked n chain (λ x. eqb b x || was x) work'

pub record ChainSays (n l b size : ℕ) (work work' : List ℕ) (r : Judged) : Type 0 where
  pub says : (chain : ℕ → ℕ) (was : ℕ → Bool) → Chains n chain → Marked n chain was work → ChainJudged n chain was l b size work' r
  pub behind : Behind n work work'

-- the removed inodes are marked, and the marks of the blocks stay
pub record Gone (n : ℕ) (f : Bytes) (work work' : List ℕ) : Type 0 where
  pub dead : Dead n f work'
  pub before : (b : ℕ) → b < n → get_or work' b 0 ≡ get_or work b 0

-- the files of inode below y were looked at
pub record Looked (n : ℕ) (chain : ℕ → ℕ) (l : ℕ) (f : Bytes) (y : ℕ) (work : List ℕ) : Type 0 where
  pub marked : Marked n chain (named (subject_of chain n l f) y) work
  pub dead : Dead n f work

-- what is told of inode y
pub record FileJudged (S : Subject) (y : ℕ) (r : Judged) : Type 0 where
  pub astray : r.astray ≡ astray S y
  pub shared : r.shared ≡ shared S y
  pub over : r.over ≡ over S y

pub record FileLooked (n : ℕ) (chain : ℕ → ℕ) (l : ℕ) (f : Bytes) (y : ℕ) (work' : List ℕ) (r : Judged) : Type 0 where
  pub judged : FileJudged (subject_of chain n l f) y r
  pub looked : Looked n chain l f (suc y) work'

pub record FileSays (n l : ℕ) (f : Bytes) (y : ℕ) (work work' : List ℕ) (r : Judged) : Type 0 where
  pub says : (chain : ℕ → ℕ) → Chains n chain → Looked n chain l f y work → FileLooked n chain l f y work' r

-- findings are written to a list, if it has room for them all
pub record Wrote (list : List ℕ) (out : List Finding) (list' : List ℕ) : Type 0 where
  pub long : length list' ≡ length list
  pub is : 2 * length out ≤ length list → list' ≡ sets list 0 (flat out)

-- some more findings are written behind those that were: found is their number
pub record Put (found : ℕ) (more : List Finding) (list list' : List ℕ) (r : ℕ) : Type 0 where
  pub count : r ≡ found + length more
  pub wrote : (list₀ : List ℕ) (out : List Finding) → found ≡ length out → Wrote list₀ out list → Wrote list₀ (out ++ more) list'

-- the findings of one inode, as they were told
abbrev pub told : Judged → ℕ → List Finding
told j y = when j.astray (finding 1 y) ++ (when j.shared (finding 2 y) ++ when j.over (finding 3 y))

pub record PutFile (found : ℕ) (j : Judged) (y : ℕ) (list list' : List ℕ) (r : ℕ) : Type 0 where
  pub put : Put found (told j y) list list' r
  pub most : r ≤ found + 3

-- the findings of all files are written, and the chains that they name are marked
pub record FilesSwept (n : ℕ) (chain : ℕ → ℕ) (l : ℕ) (f : Bytes) (list work' list' : List ℕ) (r : ℕ) : Type 0 where
  pub count : r ≡ length (file_findings (subject_of chain n l f) (count_of f))
  pub wrote : Wrote list (file_findings (subject_of chain n l f) (count_of f)) list'
  pub looked : Looked n chain l f (count_of f) work'

pub record FilesSay (n l : ℕ) (f : Bytes) (work list work' list' : List ℕ) (r : ℕ) : Type 0 where
  pub says : (chain : ℕ → ℕ) → Chains n chain → Start n chain f work → FilesSwept n chain l f list work' list' r
  pub few : r ≤ 200000

-- whether a mark m is that of a chain that no file names
pub record LostSays (m : ℕ) (r : Bool) : Type 0 where
  pub says : (c : ℕ) (was : Bool) → c ≤ 1000000 → m ≡ mark c was → r ≡ ltb 0 c && not was

-- the findings of all blocks are written, and the flags are taken away
pub record BlocksSwept (S : Subject) (n found : ℕ) (work' list list' : List ℕ) (r : ℕ) : Type 0 where
  pub put : Put found (block_findings S n) list list' r
  pub chains : (b : ℕ) → b < n → get_or work' b 0 ≡ S.chain b

pub record BlocksSay (n found : ℕ) (work list work' list' : List ℕ) (r : ℕ) : Type 0 where
  pub says : (S : Subject) → Chains n S.chain → Marked n S.chain (named S S.count) work → BlocksSwept S n found work' list list' r
  pub behind : Behind n work work'
  pub few : r ≤ found + n

-- all findings are written, and the marks are as they were
pub record Swept (n : ℕ) (chain : ℕ → ℕ) (l : ℕ) (f : Bytes) (list work' list' : List ℕ) (r : ℕ) : Type 0 where
  pub count : r ≡ length (findings (subject_of chain n l f))
  pub wrote : Wrote list (findings (subject_of chain n l f)) list'
  pub start : Start n chain f work'

pub record SweepSays (n l : ℕ) (f : Bytes) (work list work' list' : List ℕ) (r : ℕ) : Type 0 where
  pub says : (chain : ℕ → ℕ) → Chains n chain → Start n chain f work → Swept n chain l f list work' list' r
  pub few : r ≤ 2000000

-- the whole report
pub record ReportSays (n l : ℕ) (f : Bytes) (work list : List ℕ) (o : Audit) : Type 0 where
  pub says : (chain : ℕ → ℕ) → Chains n chain → Start n chain f work → AuditSound (subject_of chain n l f) list o

-- the whole audit, and the work list cleared
pub record AuditSays (n : ℕ) (t : Bytes) (l : ℕ) (f : Bytes) (work list work' : List ℕ) (o : Audit) : Type 0 where
  pub says : AuditSound (subject n t l f) list o
  pub clear : work' ≡ replicate (length work) 0
