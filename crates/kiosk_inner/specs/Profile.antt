-- The kiosk's profile (RULES 6.18): six rules, each stated by what breaks it, in their order. n is the number of blocks, t the block table, l the block
-- length, d the directories' table and f the files'.
use Rattle.std.specs.Prelude.{◌≡◌, List, [], ◌∷◌, ◌≢◌, Bool, true, false, cond, ◌&&◌, ◌||◌, ℕ, zero, suc, ◌+◌, ◌*◌, ◌<◌, eqb, leb, length, take, drop}
use Rattle.std.specs.List.{prefix_len, list_all}
use Rattle.links.specs.Change.{walk}
use Rattle.order.specs.First.{Row, row, First}
use Rattle.fat_node.specs.Entry.{Bytes}
use Rattle.fat_table.specs.Sound.{File}
use Rattle.fat_table.specs.Chain.{file_at}
use Rattle.tree_table.specs.Field.{field, collision_field, count_field}
use Rattle.tree_table.specs.View.{Live}
use Rattle.audit_inner.specs.Findings.{findings}
use Rattle.audit_inner.specs.Volume.{count_of, is_live, subject}

-- the most blocks, and the most live files
abbrev pub most_blocks : ℕ
most_blocks = 8191

abbrev pub most_files : ℕ
most_files = 64

-- the live directories: inodes from 1 below the count that are not removed (RULES 5.5)
abbrev pub removed_dirs : Bytes → List ℕ
removed_dirs d = walk (λ y. field 40 d y collision_field) (field 40 d 0 count_field) (field 40 d 0 collision_field)

abbrev pub LiveDir : Bytes → ℕ → Type 0
LiveDir d y = Live (field 40 d 0 count_field) (removed_dirs d) y

-- a directory that is not the root
abbrev pub OtherDirectory : Bytes → Type 0
OtherDirectory d = (y : ℕ) × LiveDir d y × (y ≢ 1)

-- the number of live files of inode below y, and of all: a removed one is none
abbrev pub live_below : Bytes → ℕ → ℕ
live_below f zero = 0
live_below f (suc y) = live_below f y + cond (is_live f y) 1 0

unfoldable pub live_files : Bytes → ℕ
live_files f = live_below f (count_of f)

-- a chain, other than the free one, that is not a single node
abbrev pub Scattered : ℕ → Bytes → Type 0
Scattered n t = (b : ℕ) × File t n b × (length (file_at n t b) ≢ 1)

-- a character of a name: 0 to 9, A to Z
unfoldable pub character : ℕ → Bool
character c = (leb 48 c && leb c 57) || (leb 65 c && leb c 90)

-- how many characters a name begins with
abbrev pub leading : List ℕ → ℕ
leading name = prefix_len character name

-- zeros alone
abbrev pub zeros : List ℕ → Bool
zeros name = list_all (λ c. eqb c 0) name

-- at least one character, and after the last of them zeros to the end
unfoldable pub simple : List ℕ → Bool
simple name = leb 1 (leading name) && zeros (drop (leading name) name)

-- the sixteen name bytes of file y
unfoldable pub name_of : Bytes → ℕ → List ℕ
name_of f y = take 16 (drop (y * 48 + 4) f)

-- a live file with another name
abbrev pub OddName : Bytes → Type 0
OddName f = (y : ℕ) × (is_live f y ≡ true) × (simple (name_of f y) ≡ false)

-- the audit finds something
abbrev pub Found : (n : ℕ) (t : Bytes) (l : ℕ) (f : Bytes) → Type 0
Found n t l f = findings (subject n t l f) ≡ [] → ⊥

-- rows numbered in their order, from k on
abbrev pub numbered : (k : ℕ) → List (Type 0) → List (Row ℕ)
numbered k [] = []
numbered k (broken ∷ more) = row broken k ∷ numbered (suc k) more

-- the six rules, by what breaks each
abbrev pub profile_rules : (n : ℕ) (t : Bytes) (l : ℕ) (d f : Bytes) → List (Row ℕ)
profile_rules n t l d f = numbered 1 (Found n t l f ∷ (most_blocks < n) ∷ OtherDirectory d ∷ (most_files < live_files f) ∷ Scattered n t ∷ OddName f ∷ [])

-- rule is the first that is broken, 0 where none is
abbrev pub Broken : (n : ℕ) (t : Bytes) (l : ℕ) (d f : Bytes) (rule : ℕ) → Type 0
Broken n t l d f rule = First (profile_rules n t l d f) 0 rule
