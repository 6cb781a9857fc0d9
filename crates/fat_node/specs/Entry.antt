-- An entry of the block table: two little-endian u32, u and v. Entry 0 is the head, entry b + 1 belongs to block b. The low 31 bits of a word are an
-- index (a block number plus 1, or 0 for none), its top bit a flag.
use Rattle.std.specs.Prelude.{ℕ, ◌+◌, ◌*◌, List}
use Rattle.words.specs.Word.{word, put_word}

-- what stands in a lent slice of bytes: numbers below 256
abbrev pub Bytes : Type 0
Bytes = List ℕ

-- an entry: its two words
pub record Entry : Type 0 where
  pub u : ℕ
  pub v : ℕ

-- an entry by its words
abbrev pub entry : (u v : ℕ) → Entry
entry u v = record { u = u; v = v }

-- entry e of the table
unfoldable pub get : (t : Bytes) (e : ℕ) → Entry
get t e = entry (word t (8 * e)) (word t (8 * e + 4))

-- the table with entry e written
unfoldable pub put : (t : Bytes) (e : ℕ) (w : Entry) → Bytes
put t e w = put_word (put_word t (8 * e) w.u) (8 * e + 4) w.v

-- the flag, as it stands in a word
abbrev pub top : ℕ
top = 2147483648

-- the first word of entry e
abbrev pub u_at : (t : Bytes) (e : ℕ) → ℕ
u_at t e = (get t e).u

-- its second word
abbrev pub v_at : (t : Bytes) (e : ℕ) → ℕ
v_at t e = (get t e).v
