-- Sets of blocks as u32 words, one bit a block, the lowest block in the lowest bit (RULES 3.7). A set is told by c: c x is 1 where block x is in it, else 0.
use Rattle.std.specs.Prelude.{List, [], ◌∷◌, ℕ, zero, suc, ◌+◌, ◌-◌, ◌*◌, ◌/◌, ◌%◌, ◌^◌, get_or}

-- the number whose k lowest bits are c b, c (b + 1), and so on, the first of them the lowest
unfoldable pub word : (k b : ℕ) (c : ℕ → ℕ) → ℕ
word zero b c = 0
word (suc k) b c = c b + 2 * word k (suc b) c

-- w words of the set c, of 32 blocks each, from block b on
abbrev pub words_from : (w b : ℕ) (c : ℕ → ℕ) → List ℕ
words_from zero b c = []
words_from (suc w) b c = word 32 b c ∷ words_from w (b + 32) c

-- the words that n blocks take: n / 32, rounded up
abbrev pub words_in : ℕ → ℕ
words_in n = (n + 31) / 32

-- bit x of a map, as it stands there
unfoldable pub bit : (map : List ℕ) (x : ℕ) → ℕ
bit map x = get_or map (x / 32) 0 / 2 ^ (x % 32) % 2

-- c summed over k blocks, from block a on
unfoldable pub sum_from : (k a : ℕ) (c : ℕ → ℕ) → ℕ
sum_from zero a c = 0
sum_from (suc k) a c = c a + sum_from k (suc a) c

-- the set bits of a map, for the blocks from a up to and without b
unfoldable pub counted_in : (map : List ℕ) (a b : ℕ) → ℕ
counted_in map a b = sum_from (b - a) a (bit map)
