-- Soundness of the two entry tables together, sentence by sentence as RULES 5.7 has it. D are the directories and F the files, as their views. The
-- inodes from 1 below count that are not removed are live: LiveIn is that sentence.
use Rattle.std.specs.Prelude.{◌≡◌, [], ◌∷◌, ℕ, ◌≤◌, ◌<◌}
use Rattle.links.specs.Links.{◌∈◌, Distinct, Links, Holds}
use Rattle.tree_table.specs.View.{View, parent, place, removed_of, LiveIn, Reaches}

-- what is said of each table by itself
pub record Table (v : View) : Type 0 where
  -- maximum at most the table's room, 1 <= count <= maximum
  pub max_room : v.maximum ≤ v.room
  pub count_one : 1 ≤ v.count
  pub count_max : v.count ≤ v.maximum
  -- the removed entries are a list that ends
  pub removed : Links v.coll (v.coll 0) (removed_of v)
  -- removed inodes distinct and below count
  pub removed_once : Distinct (removed_of v)
  pub removed_below : (y : ℕ) → y ∈ removed_of v → y < v.count
  -- each bucket holds exactly the live entries with that hash, once
  pub bucket : (b : ℕ) → b < v.buckets → Holds v.coll (v.hash b) (λ y. LiveIn v y × (place v (v.key y) ≡ b))
  -- live keys distinct
  pub keys : (y z : ℕ) → LiveIn v y → LiveIn v z → v.key y ≡ v.key z → y ≡ z

-- the directory whose inode an entry names
abbrev pub up : View → ℕ → ℕ
up v y = parent (v.key y)

-- what is said of the entries of a table v below the directories D: v are the directories themselves, or the files. `root` is the one entry that has
-- no parent: 1 among the directories, 0, which is no entry, among the files
pub record Below (D v : View) (root : ℕ) : Type 0 where
  pub table : Table v
  -- every other live entry has a live parent directory
  pub parents : (y : ℕ) → LiveIn v y → (y ≡ root → ⊥) → LiveIn D (up v y)
  -- each directory's list ends and holds exactly the live entries that name it as parent, once each
  pub lists : (p : ℕ) → LiveIn D p → Holds v.next (v.head p) (λ y. LiveIn v y × (up v y ≡ p))

-- what is said of the directories, whatever the files
pub record Dirs (D : View) : Type 0 where
  pub below : Below D D 1
  -- count at least 2
  pub count_two : 2 ≤ D.count
  -- root is live with a zero key and next 0
  pub root_live : LiveIn D 1
  pub root_key : D.key 1 ≡ 0 ∷ 0 ∷ 0 ∷ 0 ∷ 0 ∷ []
  pub root_next : D.next 1 ≡ 0
  -- every directory reaches inode 1 by parents
  pub reach : (y : ℕ) → LiveIn D y → Reaches (up D) y

-- the two tables are sound
pub record Sound (D F : View) : Type 0 where
  pub dirs : Dirs D
  pub files : Below D F 0
