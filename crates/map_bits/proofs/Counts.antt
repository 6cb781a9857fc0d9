-- The set bits of a stretch, word by word.
use mathlib.Core.Path.{◌≡◌, refl, sym, ap, ap₂, ◌∙◌}
use mathlib.Core.List.{List}
use mathlib.Core.Logic.{⊎_elim}
use Prim.Native.Nat.{ℕ, zero, suc, ◌+◌, ◌-◌, ◌*◌, ◌/◌, ◌%◌, ◌^◌, ◌≤◌, ◌<◌}
use native.Mathlib.Omega.{arith}
use native.Mathlib.Nat.{le_refl, add-zero, zero-add, suc-add, add_assoc}
use native.Mathlib.Numerals.{add-one}
use mir.Syntax.{w32}
use mir.Val.{Fits}
use lib.ListN.{length, get_or, take, drop}
use Rattle.std.proofs.lemmas.List.{length-take, get_or-take, get_or-drop}
use lib.Pow.{shr-shr, mod-mod-pow, field}
use lib.Count.{ones, ones_step, ones-le}
use Rattle.map_bits.specs.Bits.{bit, sum_from, counted_in}
use Rattle.map_bits.specs.Inner.Counts.{CountOf}
use Rattle.map_bits.proofs.Words.{le_or_lt}

-- sums ---------------------------------------------------------------------------------------------------------------

pub sum_shift : (k s a : ℕ) (c d : ℕ → ℕ) → ((x : ℕ) → a ≤ x → x < a + k → c (s + x) ≡ d x) → sum_from k (s + a) c ≡ sum_from k a d
unfolding sum_from
sum_shift zero s a c d h = refl
sum_shift (suc k) s a c d h =
    let e : sum_from k (suc (s + a)) c ≡ sum_from k (s + suc a) c = ap (λ (x : ℕ). sum_from k x c) (omega arith) in
    omega (arith, h a (le_refl a) (omega arith), e, sum_shift k s (suc a) c d (λ x p q. h x (omega arith) (omega arith)))

pub sum_same : (k a : ℕ) (c d : ℕ → ℕ) → ((x : ℕ) → a ≤ x → x < a + k → c x ≡ d x) → sum_from k a c ≡ sum_from k a d
unfolding sum_from
sum_same zero a c d h = refl
sum_same (suc k) a c d h = omega (arith, h a (le_refl a) (omega arith), sum_same k (suc a) c d (λ x p q. h x (omega arith) (omega arith)))

pub sum_split : (k m a : ℕ) (c : ℕ → ℕ) → sum_from (k + m) a c ≡ sum_from k a c + sum_from m (a + k) c
unfolding sum_from
sum_split zero m a c =
    let e : sum_from m (a + 0) c ≡ sum_from m a c = ap (λ (x : ℕ). sum_from m x c) (add-zero a) in
    ap (λ (x : ℕ). sum_from x a c) (zero-add m) ∙ sym e ∙ sym (zero-add (sum_from m (a + 0) c))
sum_split (suc k) m a c =
    let e : sum_from m (suc a + k) c ≡ sum_from m (a + suc k) c = ap (λ (x : ℕ). sum_from m x c) (omega arith) in
    ap (λ (x : ℕ). sum_from x a c) (suc-add k m) ∙ ap (λ (x : ℕ). c a + x) (sum_split k m (suc a) c ∙ ap (λ (x : ℕ). sum_from k (suc a) c + x) e)
    ∙ sym (add_assoc (c a) (sum_from k (suc a) c) (sum_from m (a + suc k) c))

pub sum_most : (k a : ℕ) (c : ℕ → ℕ) → ((x : ℕ) → c x ≤ 1) → sum_from k a c ≤ k
unfolding sum_from
sum_most zero a c h = omega arith
sum_most (suc k) a c h = omega (arith, h a, sum_most k (suc a) c h)

-- a word's ones ------------------------------------------------------------------------------------------------------

none : ones 0 ≡ 0
unfolding ones
none = refl

-- the bits of a number, one by one
abbrev pub digit : ℕ → ℕ → ℕ
digit w k = w / 2 ^ k % 2

pub ones_sum : (m lo w : ℕ) → ones (w / 2 ^ lo % 2 ^ m) ≡ sum_from m lo (digit w)
unfolding sum_from
ones_sum zero lo w =
    let e : w / 2 ^ lo % 1 ≡ 0 = omega arith in
    ap ones e ∙ none
ones_sum (suc m) lo w =
    let y : ℕ = w / 2 ^ lo in
    let s : suc m ≡ m + 1 = omega arith in
    let odd : y % 2 ^ suc m % 2 ≡ y % 2 = ap (λ (k : ℕ). y % 2 ^ k % 2) s ∙ mod-mod-pow y m 1 in
    let rest : y % 2 ^ suc m / 2 ≡ w / 2 ^ suc lo % 2 ^ m =
    ap (λ (k : ℕ). y % 2 ^ k / 2) s ∙ field y m 1 ∙ ap (λ (z : ℕ). z % 2 ^ m) (shr-shr w lo 1 ∙ ap (λ (k : ℕ). w / 2 ^ k) (add-one lo)) in
    ones_step (y % 2 ^ suc m) ∙ ap₂ (λ (a b : ℕ). a + ones b) odd rest ∙ ap (λ (z : ℕ). y % 2 + z) (ones_sum m (suc lo) w)

mul_next : (k : ℕ) → 32 * k + 32 ≡ 32 * (k + 1)
mul_next k = omega arith

low : (a : ℕ) → 32 * (a / 32) + a % 32 ≡ a
low a = omega arith

ne_less : (i j : ℕ) → (i ≡ j → ⊥) → i ≤ j → i < j
ne_less i j d h = ⊎_elim (λ k. absurd (d (omega arith))) (λ k. k) (le_or_lt j i)

-- stretches ----------------------------------------------------------------------------------------------------------

pub counted_split : (map : List ℕ) (a m b : ℕ) → a ≤ m → m ≤ b → counted_in map a b ≡ counted_in map a m + counted_in map m b
unfolding counted_in
counted_split map a m b p q =
    let e : sum_from (b - a) a (bit map) ≡ sum_from ((m - a) + (b - m)) a (bit map) = ap (λ (k : ℕ). sum_from k a (bit map)) (omega arith) in
    let f : sum_from (b - m) (a + (m - a)) (bit map) ≡ sum_from (b - m) m (bit map) = ap (λ (x : ℕ). sum_from (b - m) x (bit map)) (omega arith) in
    omega (arith, e, f, sum_split (m - a) (b - m) a (bit map))

pub counted_none : (map : List ℕ) (a b : ℕ) → b ≤ a → counted_in map a b ≡ 0
unfolding counted_in sum_from
counted_none map a b h =
    let e : b - a ≡ 0 = omega arith in
    ap (λ (k : ℕ). sum_from k a (bit map)) e

pub bit_most : (map : List ℕ) (x : ℕ) → bit map x ≤ 1
unfolding bit
bit_most map x = omega arith

pub counted_most : (map : List ℕ) (a b : ℕ) → counted_in map a b ≤ b - a
unfolding counted_in
counted_most map a b = sum_most (b - a) a (bit map) (bit_most map)

bit_at : (map : List ℕ) (i k : ℕ) → k < 32 → bit map (32 * i + k) ≡ digit (get_or map i 0) k
unfolding bit
bit_at map i k h =
    let p : (32 * i + k) / 32 ≡ i = omega arith in
    let q : (32 * i + k) % 32 ≡ k = omega arith in
    ap₂ (λ (a b : ℕ). get_or map a 0 / 2 ^ b % 2) p q

-- of one word, from bit lo up to and without bit hi
pub counted_part : (map : List ℕ) (i lo hi : ℕ) → lo ≤ hi → hi ≤ 32 → counted_in map (32 * i + lo) (32 * i + hi) ≡ sum_from (hi - lo) lo (digit (get_or map i 0))
unfolding counted_in
counted_part map i lo hi p q =
    let e : (32 * i + hi) - (32 * i + lo) ≡ hi - lo = omega arith in
    ap (λ (k : ℕ). sum_from k (32 * i + lo) (bit map)) e
    ∙ sum_shift (hi - lo) (32 * i) lo (bit map) (digit (get_or map i 0)) (λ x u v. bit_at map i x (omega arith))

-- of a whole word
pub counted_word : (map : List ℕ) (i : ℕ) → get_or map i 0 < 4294967296 → counted_in map (32 * i) (32 * i + 32) ≡ ones (get_or map i 0)
counted_word map i h =
    let w : ℕ = get_or map i 0 in
    let e : w / 1 % 4294967296 ≡ w = omega arith in
    let s : ones (w / 1 % 4294967296) ≡ sum_from 32 0 (digit w) = ones_sum 32 0 w in
    ap (λ (x : ℕ). counted_in map x (32 * i + 32)) (omega arith) ∙ counted_part map i 0 32 (omega arith) (omega arith) ∙ sym s ∙ ap ones e

-- what the functions say ---------------------------------------------------------------------------------------------

module _ (map : List ℕ) (i lo hi : ℕ) where
  pub part_count : (r : ℕ) → lo ≤ hi → hi ≤ 32 → r ≡ sum_from (hi - lo) lo (digit (get_or map i 0)) → CountOf map (32 * i + lo) (32 * i + hi) 32 r
  part_count r p q e =
      let z : r ≡ counted_in map (32 * i + lo) (32 * i + hi) = e ∙ sym (counted_part map i lo hi p q) in
      record { is = z; most = omega (arith, z, counted_most map (32 * i + lo) (32 * i + hi)) }

  pub part_empty : hi ≤ lo → CountOf map (32 * i + lo) (32 * i + hi) 32 0
  part_empty h = record { is = sym (counted_none map (32 * i + lo) (32 * i + hi) (omega arith)); most = omega arith }

-- what stands in a lent map is a word
pub words_fit : (map : List ℕ) → ((i : ℕ) → Fits w32 (get_or map i 0)) → (i : ℕ) → get_or map i 0 < 4294967296
words_fit map h i = omega (arith, h i)

-- the word at place x of the words from i up to and without j
pub word_of : (map : List ℕ) (i j x : ℕ) → j ≤ length map → x < length (take (j - i) (drop i map)) → (i + x < j) × (get_or (take (j - i) (drop i map)) x 0 ≡ get_or map (i + x) 0)
word_of map i j x h l =
    let k : x < j - i = omega (arith, length-take (j - i) (drop i map)) in
    (omega arith, get_or-take (j - i) (drop i map) x 0 k ∙ get_or-drop i map x 0)

-- the words from i up to k are counted
pub record Counting (map : List ℕ) (i j sum k : ℕ) : Type 0 where
  pub from : i ≤ k
  pub to : k ≤ j
  pub is : sum ≡ counted_in map (32 * i) (32 * k)

pub count_begin : (map : List ℕ) (i j k : ℕ) → k ≡ i → i ≤ j → Counting map i j 0 k
count_begin map i j k e h = record { from = omega (arith, e); to = omega (arith, e, h); is = sym (counted_none map (32 * i) (32 * k) (omega (arith, e))) }

module _ (map : List ℕ) (i j sum k : ℕ) (h : Counting map i j sum k) where
  pub count_most : sum ≤ 32 * (k - i)
  count_most = omega (arith, h.is, h.from, counted_most map (32 * i) (32 * k))

  module _ (l : k < j) (f : get_or map k 0 < 4294967296) where
    pub count_fits : j ≤ 1000000 → sum + ones (get_or map k 0) < 4294967296
    count_fits few = omega (arith, count_most, ones-le 32 (get_or map k 0) f)

    pub count_next : (m : ℕ) → m ≡ k + 1 → Counting map i j (sum + ones (get_or map k 0)) m
    count_next m n = record {
      from = omega (arith, h.from, n);
      to = omega (arith, n);
      is =
          let e : counted_in map (32 * i) (32 * k + 32) ≡ counted_in map (32 * i) (32 * m) = ap (λ (x : ℕ). counted_in map (32 * i) x) (omega (arith, n)) in
          omega (arith, h.is, e, counted_word map k f, counted_split map (32 * i) (32 * k) (32 * k + 32) (omega (arith, h.from)) (omega arith));
    }

  pub count_end : j ≤ k → CountOf map (32 * i) (32 * j) (32 * (j - i)) sum
  count_end l =
      let e : k ≡ j = omega (arith, h.to) in
      let z : sum ≡ counted_in map (32 * i) (32 * j) = h.is ∙ ap (λ (x : ℕ). counted_in map (32 * i) (32 * x)) e in
      record { is = z; most = omega (arith, z, counted_most map (32 * i) (32 * j), h.from) }

-- a stretch as its parts
module _ (map : List ℕ) (a b : ℕ) (p : a ≤ b) where
  pub count_one : (r : ℕ) → a / 32 ≡ b / 32 → CountOf map (32 * (a / 32) + a % 32) (32 * (a / 32) + b % 32) 32 r → r ≡ counted_in map a b
  count_one r e h =
      let u : 32 * (a / 32) + a % 32 ≡ a = omega arith in
      let v : 32 * (a / 32) + b % 32 ≡ b = omega arith in
      h.is ∙ ap₂ (λ (x y : ℕ). counted_in map x y) u v

  pub count_parts : (r s t : ℕ) → (a / 32 ≡ b / 32 → ⊥) → CountOf map (32 * (a / 32) + a % 32) (32 * (a / 32) + 32) 32 r
      → CountOf map (32 * (a / 32 + 1)) (32 * (b / 32)) (32 * (b / 32 - (a / 32 + 1))) s → CountOf map (32 * (b / 32) + 0) (32 * (b / 32) + b % 32) 32 t
      → (r + s) + t ≡ counted_in map a b
  count_parts r s t d hr hs ht =
      let m : ℕ = 32 * (a / 32) + 32 in
      let k : ℕ = 32 * (b / 32) in
      let first : r ≡ counted_in map a m = hr.is ∙ ap (λ (x : ℕ). counted_in map x m) (low a) in
      let middle : s ≡ counted_in map m k = hs.is ∙ ap (λ (x : ℕ). counted_in map x k) (sym (mul_next (a / 32))) in
      let last : t ≡ counted_in map k b = ht.is ∙ ap₂ (λ (x y : ℕ). counted_in map x y) (add-zero k) (low b) in
      let less : a / 32 < b / 32 = ne_less (a / 32) (b / 32) d (omega arith) in
      omega (arith, first, middle, last, counted_split map a m b (omega arith) (omega arith), counted_split map m k b (omega arith) (omega arith))
