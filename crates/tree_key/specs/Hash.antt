-- The hash of a key, by its words.
use Rattle.std.specs.Prelude.{List, [], ◌∷◌, ℕ, ◌+◌, ◌*◌, ◌/◌, ◌%◌, ◌^◌}
use Rattle.std.specs.Int.Bits.{bit_xor}

-- a number of 32 bits rotated right by 1
unfoldable pub rotated : ℕ → ℕ
rotated h = h / 2 + h % 2 * 2 ^ 31

-- rotate right by 1, then xor the word
unfoldable pub mix : ℕ → ℕ → ℕ
mix h w = bit_xor (rotated h) w

abbrev pub mixed : ℕ → List ℕ → ℕ
mixed h [] = h
mixed h (w ∷ ws) = mixed (mix h w) ws

-- RULES 5.3: start 0x12345678, then each word of the key
unfoldable pub hash_of : List ℕ → ℕ
hash_of key = mixed 0x12345678 key
