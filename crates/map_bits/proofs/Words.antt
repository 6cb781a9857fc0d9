-- Words of a set: they add up as sets do, and their bits are the set's.
use mathlib.Core.Path.{◌≡◌, refl, sym, ap, ◌∙◌}
use mathlib.Core.List.{List, ◌∷◌}
use mathlib.Core.Bool.{Bool, true, false}
use mathlib.Core.Logic.{◌⊎◌, inl, inr}
use Prim.Native.Nat.{ℕ, zero, suc, ◌+◌, ◌*◌, ◌/◌, ◌%◌, ◌^◌, ◌≤◌, ◌<◌}
use native.Mathlib.Omega.{arith}
use native.Mathlib.Nat.{pow-suc, le_refl, add-zero}
use lib.Dec.{leb}
use borrow.Author.Tests.{leb-true, leb-false}
use lib.ListN.{length, get_or, set}
use lib.Pow.{shr-shr}
use Rattle.map_bits.specs.Bits.{word, words_from, bit}

pub le_or_lt : (a b : ℕ) → (a ≤ b) ⊎ (b < a)
le_or_lt a b = go (leb a b) refl
  where
    go : (t : Bool) → leb a b ≡ t → (a ≤ b) ⊎ (b < a)
    go true e = inl (leb-true _ _ e)
    go false e = inr (leb-false _ _ e)

-- sets that are the same from b on for k blocks have the same word
pub word_same : (k b : ℕ) (c d : ℕ → ℕ) → ((x : ℕ) → b ≤ x → x < b + k → c x ≡ d x) → word k b c ≡ word k b d
unfolding word
word_same zero b c d h = refl
word_same (suc k) b c d h = omega (arith, h b (le_refl b) (omega arith), word_same k (suc b) c d (λ x p q. h x (omega arith) (omega arith)))

pub word_add : (k b : ℕ) (c d : ℕ → ℕ) → word k b (λ x. c x + d x) ≡ word k b c + word k b d
unfolding word
word_add zero b c d = refl
word_add (suc k) b c d = omega (arith, word_add k (suc b) c d)

pub word_none : (k b : ℕ) (c : ℕ → ℕ) → ((x : ℕ) → b ≤ x → x < b + k → c x ≡ 0) → word k b c ≡ 0
unfolding word
word_none zero b c h = refl
word_none (suc k) b c h = omega (arith, h b (le_refl b) (omega arith), word_none k (suc b) c (λ x p q. h x (omega arith) (omega arith)))

pub word_all : (k b : ℕ) (c : ℕ → ℕ) → ((x : ℕ) → b ≤ x → x < b + k → c x ≡ 1) → word k b c + 1 ≡ 2 ^ k
unfolding word
word_all zero b c h = refl
word_all (suc k) b c h =
    omega (arith, pow-suc 2 k, h b (le_refl b) (omega arith), word_all k (suc b) c (λ x p q. h x (omega arith) (omega arith)))

pub word_less : (k b : ℕ) (c : ℕ → ℕ) → ((x : ℕ) → c x ≤ 1) → word k b c < 2 ^ k
unfolding word
word_less zero b c h = omega arith
word_less (suc k) b c h = omega (arith, pow-suc 2 k, h b, word_less k (suc b) c h)

-- lo blocks that are out, then those up to hi that are in, then others that are out
pub word_part : (k b lo hi : ℕ) (c : ℕ → ℕ) → lo ≤ hi → hi ≤ k → ((x : ℕ) → b ≤ x → x < b + lo → c x ≡ 0) → ((x : ℕ) → b + lo ≤ x → x < b + hi → c x ≡ 1)
    → ((x : ℕ) → b + hi ≤ x → x < b + k → c x ≡ 0) → word k b c + 2 ^ lo ≡ 2 ^ hi
unfolding word
word_part zero b zero zero c p q lows mids highs = refl
word_part zero b zero (suc hi) c p q lows mids highs = let z : ⊥ = omega arith in absurd z
word_part zero b (suc lo) hi c p q lows mids highs = let z : ⊥ = omega arith in absurd z
word_part (suc k) b zero zero c p q lows mids highs = omega (arith, word_none (suc k) b c (λ x u v. highs x (omega arith) v))
word_part (suc k) b zero (suc hi) c p q lows mids highs =
    omega (
      arith,
      pow-suc 2 hi,
      mids b (omega arith) (omega arith),
      word_part k (suc b) 0 hi c (omega arith) (omega arith) (λ x u v. let z : ⊥ = omega arith in absurd z) (λ x u v. mids x (omega arith) (omega arith))
          (λ x u v. highs x (omega arith) (omega arith)),
    )
word_part (suc k) b (suc lo) zero c p q lows mids highs = let z : ⊥ = omega arith in absurd z
word_part (suc k) b (suc lo) (suc hi) c p q lows mids highs =
    omega (
      arith,
      pow-suc 2 hi,
      pow-suc 2 lo,
      lows b (omega arith) (omega arith),
      word_part k (suc b) lo hi c (omega arith) (omega arith) (λ x u v. lows x (omega arith) (omega arith)) (λ x u v. mids x (omega arith) (omega arith))
          (λ x u v. highs x (omega arith) (omega arith)),
    )

-- the bits of a word
half : (a w : ℕ) → a ≤ 1 → (a + 2 * w) / 2 ≡ w
half a w h = omega arith

one_more : (j : ℕ) → suc j ≡ 1 + j
one_more j = omega arith

pub word_bit : (k b j : ℕ) (c : ℕ → ℕ) → j < k → ((x : ℕ) → c x ≤ 1) → word k b c / 2 ^ j % 2 ≡ c (b + j)
unfolding word
word_bit zero b j c p h = let z : ⊥ = omega arith in absurd z
word_bit (suc k) b zero c p h =
    let e : (c b + 2 * word k (suc b) c) / 1 % 2 ≡ c (b + 0) = omega (arith, h b, ap c (add-zero b)) in
    e
word_bit (suc k) b (suc j) c p h =
    let e : (c b + 2 * word k (suc b) c) / 2 ^ suc j ≡ word k (suc b) c / 2 ^ j =
    ap (λ (m : ℕ). (c b + 2 * word k (suc b) c) / 2 ^ m) (one_more j) ∙ sym (shr-shr (c b + 2 * word k (suc b) c) 1 j) ∙ ap (λ (m : ℕ). m / 2 ^ j) (half (c b) (word k (suc b) c) (h b)) in
    ap (λ (m : ℕ). m % 2) e ∙ word_bit k (suc b) j c (omega arith) h ∙ ap c (omega arith)

-- lists of words
pub length_words : (w b : ℕ) (c : ℕ → ℕ) → length (words_from w b c) ≡ w
length_words zero b c = refl
length_words (suc w) b c = ap suc (length_words w (b + 32) c)

pub get_words : (w b i : ℕ) (c : ℕ → ℕ) → i < w → get_or (words_from w b c) i 0 ≡ word 32 (b + 32 * i) c
get_words zero b i c h = let z : ⊥ = omega arith in absurd z
get_words (suc w) b zero c h = ap (λ (x : ℕ). word 32 x c) (omega arith)
get_words (suc w) b (suc i) c h = get_words w (b + 32) i c (omega arith) ∙ ap (λ (x : ℕ). word 32 x c) (omega arith)

pub words_same : (w b : ℕ) (c d : ℕ → ℕ) → ((x : ℕ) → b ≤ x → x < b + 32 * w → c x ≡ d x) → words_from w b c ≡ words_from w b d
words_same zero b c d h = refl
words_same (suc w) b c d h =
    ap (λ (x : ℕ). x ∷ words_from w (b + 32) c) (word_same 32 b c d (λ x p q. h x p (omega arith)))
    ∙ ap (λ (l : List ℕ). word 32 b d ∷ l) (words_same w (b + 32) c d (λ x p q. h x (omega arith) (omega arith)))

-- one word written
pub set_words : (w b i v : ℕ) (c d : ℕ → ℕ) → i < w → v ≡ word 32 (b + 32 * i) d
    → ((x : ℕ) → b ≤ x → x < b + 32 * i → c x ≡ d x) → ((x : ℕ) → b + 32 * i + 32 ≤ x → x < b + 32 * w → c x ≡ d x)
    → set (words_from w b c) i v ≡ words_from w b d
set_words zero b i v c d h e lows highs = refl
set_words (suc w) b zero v c d h e lows highs =
    ap (λ (x : ℕ). x ∷ words_from w (b + 32) c) (e ∙ ap (λ (x : ℕ). word 32 x d) (omega arith))
    ∙ ap (λ (l : List ℕ). word 32 b d ∷ l) (words_same w (b + 32) c d (λ x p q. highs x (omega arith) (omega arith)))
set_words (suc w) b (suc i) v c d h e lows highs =
    ap (λ (x : ℕ). x ∷ set (words_from w (b + 32) c) i v) (word_same 32 b c d (λ x p q. lows x p (omega arith)))
    ∙ ap (λ (l : List ℕ). word 32 b d ∷ l)
    (set_words w (b + 32) i v c d (omega arith) (e ∙ ap (λ (x : ℕ). word 32 x d) (omega arith)) (λ x p q. lows x (omega arith) (omega arith))
    (λ x p q. highs x (omega arith) (omega arith)))

-- the bits of a map of a set are the set's
pub bit_words : (w : ℕ) (c : ℕ → ℕ) (x : ℕ) → x < 32 * w → ((y : ℕ) → c y ≤ 1) → bit (words_from w 0 c) x ≡ c x
unfolding bit
bit_words w c x h k =
    ap (λ (m : ℕ). m / 2 ^ (x % 32) % 2) (get_words w 0 (x / 32) c (omega arith)) ∙ word_bit 32 (0 + 32 * (x / 32)) (x % 32) c (omega arith) k
    ∙ ap c (omega arith)
