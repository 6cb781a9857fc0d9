-- A stretch of blocks put into a set that a map shows, or taken out of it.
use Rattle.std.specs.Prelude.{◌≡◌, List, Bool, true, false, cond, ◌&&◌, ℕ, ◌+◌, ◌*◌, ◌≤◌, leb, ltb, length}
use Rattle.map_bits.specs.Bits.{words_from}

-- 1 where x is from lo up to and without hi, else 0
unfoldable pub between : (lo hi x : ℕ) → ℕ
between lo hi x = cond (leb lo x && ltb x hi) 1 0

-- d is the set c with the blocks from lo up to and without hi put in, none of which is in c; or taken out, all of which are
abbrev pub Turned : (on : Bool) (c d : ℕ → ℕ) (lo hi : ℕ) → Type 0
Turned true c d lo hi = (x : ℕ) → d x ≡ c x + between lo hi x
Turned false c d lo hi = (x : ℕ) → c x ≡ d x + between lo hi x

-- the map shows the set c, and is to show d
pub record Turn (on : Bool) (map : List ℕ) (c d : ℕ → ℕ) (lo hi : ℕ) : Type 0 where
  pub shows : map ≡ words_from (length map) 0 c
  pub turned : Turned on c d lo hi
  pub was : (x : ℕ) → c x ≤ 1
  pub is : (x : ℕ) → d x ≤ 1
  pub order : lo ≤ hi
  pub fits : hi ≤ 32 * length map

-- it is so of some sets
pub record Turnable (on : Bool) (map : List ℕ) (lo hi : ℕ) : Type 0 where
  pub from : ℕ → ℕ
  pub to : ℕ → ℕ
  pub turn : Turn on map from to lo hi
