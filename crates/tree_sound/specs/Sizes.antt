-- The sizes of the four tables that every tree call is lent.
use Rattle.std.specs.Prelude.{◌≡◌, List, ◌⊎◌, ℕ, ◌+◌, ◌/◌, ◌%◌, ◌<◌, length}

-- as many buckets as a hash has, and as many entries as a table of the directories or of the files has room for
abbrev pub buckets : List ℕ → ℕ
buckets h = length h / 4

abbrev pub dir_room : List ℕ → ℕ
dir_room d = length d / 40

abbrev pub file_room : List ℕ → ℕ
file_room f = length f / 48

-- the places of the work list that a tree call names
abbrev pub rooms : List ℕ → List ℕ → ℕ
rooms d f = dir_room d + file_room f

-- a hash of length 0 or of a length that is not a multiple of 4
abbrev pub HashMisfit : List ℕ → Type 0
HashMisfit h = (length h ≡ 0) ⊎ (length h % 4 ≡ 0 → ⊥)

-- one of the four does not fit: a hash, or an entry table that is shorter than one entry
abbrev pub Misfit : List ℕ → List ℕ → List ℕ → List ℕ → Type 0
Misfit dh d fh f = HashMisfit dh ⊎ (length d < 40) ⊎ HashMisfit fh ⊎ (length f < 48)

-- a number that is not from 1 to 65,536
abbrev pub Beyond : ℕ → Type 0
Beyond n = (n < 1) ⊎ (65536 < n)

-- one of the four has a size out of the bounds of RULES 1.2
abbrev pub Outside : List ℕ → List ℕ → List ℕ → List ℕ → Type 0
Outside dh d fh f = Beyond (buckets dh) ⊎ Beyond (dir_room d) ⊎ Beyond (buckets fh) ⊎ Beyond (file_room f)
