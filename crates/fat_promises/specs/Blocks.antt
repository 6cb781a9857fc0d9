-- The blocks of a chain, and where the bytes of its file lie in the data.
use Rattle.std.specs.Prelude.{List, [], ◌∷◌, ◌++◌, ℕ, zero, suc, ◌+◌, ◌*◌, ◌/◌, ◌%◌, get_or, set}
use Rattle.fat_node.specs.Entry.{Bytes}
use Rattle.fat_node.specs.Node.{Run}

-- s blocks, from block b on
abbrev pub blocks_from : (s b : ℕ) → List ℕ
blocks_from zero b = []
blocks_from (suc s) b = b ∷ blocks_from s (suc b)

-- the blocks of a chain, in its order
abbrev pub blocks_of : List Run → List ℕ
blocks_of [] = []
blocks_of (r ∷ l) = blocks_from r.size r.start ++ blocks_of l

-- where byte k of a file with these blocks, each of so many bytes, lies in the data
unfoldable pub place_of : (blocks : List ℕ) (block-len k : ℕ) → ℕ
place_of blocks block-len k = get_or blocks (k / block-len) 0 * block-len + k % block-len

-- a number of bytes of the file, from byte pos on
abbrev pub bytes_at : (many : ℕ) (d : Bytes) (block-len : ℕ) (blocks : List ℕ) (pos : ℕ) → Bytes
bytes_at zero d block-len blocks pos = []
bytes_at (suc many) d block-len blocks pos = get_or d (place_of blocks block-len pos) 0 ∷ bytes_at many d block-len blocks (suc pos)

-- the data with some bytes written into the file, from byte pos on
abbrev pub written : (buf d : Bytes) (block-len : ℕ) (blocks : List ℕ) (pos : ℕ) → Bytes
written [] d block-len blocks pos = d
written (x ∷ buf) d block-len blocks pos = written buf (set d (place_of blocks block-len pos) x) block-len blocks (suc pos)
