-- One entry table with its hash and its child lists, as the words that its rules read.
use Rattle.std.specs.Prelude.{List, [], ◌∷◌, ℕ, ◌/◌, ◌%◌, ◌<◌, length, get_or}
use Rattle.links.specs.Links.{◌∈◌, Links}
use Rattle.links.specs.Change.{walk}
use Rattle.tree_key.specs.Hash.{hash_of}
use Rattle.tree_table.specs.Field.{field}

pub record View : Type 0 where
  pub buckets : ℕ
  -- as many entries as the table has room for
  pub room : ℕ
  -- 1 for directories, 0 for files: the one entry that has no parent
  pub root : ℕ
  pub count : ℕ
  pub maximum : ℕ
  -- the first entry of a bucket
  pub hash : ℕ → ℕ
  -- an entry's collision field; of entry 0, the first removed entry
  pub coll : ℕ → ℕ
  -- an entry's next field
  pub next : ℕ → ℕ
  -- a directory's first child in this table
  pub head : ℕ → ℕ
  -- an entry's key, five words
  pub key : ℕ → List ℕ

abbrev pub parent : List ℕ → ℕ
parent k = get_or k 0 0

-- the bucket of a key
abbrev pub place : View → List ℕ → ℕ
place v k = hash_of k % v.buckets

-- the key among an entry's fields
abbrev pub key_at : (ℕ → ℕ → ℕ) → ℕ → List ℕ
key_at m x = m x 1 ∷ m x 2 ∷ m x 3 ∷ m x 4 ∷ m x 5 ∷ []

-- the view that the fields m of a table give, whatever its width
abbrev pub view_of : ℕ → ℕ → ℕ → (ℕ → ℕ → ℕ) → (ℕ → ℕ) → (ℕ → ℕ) → View
view_of buckets room root m hash head = record {
  buckets = buckets;
  room = room;
  root = root;
  count = m 0 1;
  maximum = m 0 2;
  hash = hash;
  coll = λ x. m x 0;
  next = λ x. m x 6;
  head = head;
  key = key_at m;
}

-- the first entry of bucket b
abbrev pub hash_at : List ℕ → ℕ → ℕ
hash_at h b = field 4 h b 0

-- the directories' table: d of width 40 with the hash dh. Its child lists start in the directories' field 7
abbrev pub dir_view : List ℕ → List ℕ → View
dir_view dh d = view_of (length dh / 4) (length d / 40) 1 (field 40 d) (hash_at dh) (λ p. field 40 d p 7)

-- the files' table: f of width 48 with the hash fh. Its child lists start in the field 8 of the directories d
abbrev pub file_view : List ℕ → List ℕ → List ℕ → View
file_view d fh f = view_of (length fh / 4) (length f / 48) 0 (field 48 f) (hash_at fh) (λ p. field 40 d p 8)

-- the inodes from 1 below count that are not in R, the removed ones
abbrev pub Live : ℕ → List ℕ → ℕ → Type 0
Live count R y = (0 < y) × (y < count) × (y ∈ R → ⊥)

-- the removed entries, a bucket, and a directory's children, as far as count goes
abbrev pub removed_of : View → List ℕ
removed_of v = walk v.coll v.count (v.coll 0)

abbrev pub bucket_of : View → ℕ → List ℕ
bucket_of v b = walk v.coll v.count (v.hash b)

abbrev pub children_of : View → ℕ → List ℕ
children_of v p = walk v.next v.count (v.head p)

-- the live entries of a table
abbrev pub LiveIn : View → ℕ → Type 0
LiveIn v y = Live v.count (removed_of v) y

-- going up by u, from y one comes to inode 1
abbrev pub Reaches : (ℕ → ℕ) → ℕ → Type 0
Reaches u y = (xs : List ℕ) × Links u y xs × (1 ∈ xs)
