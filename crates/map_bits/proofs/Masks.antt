-- Masks of one word.
use mathlib.Core.Path.{◌≡◌, ap, ◌∙◌}
use mathlib.Core.Bool.{Bool, true, false, cond}
use Prim.Native.Nat.{ℕ, ◌+◌, ◌-◌, ◌*◌, ◌/◌, ◌%◌, ◌^◌, ◌≤◌, ◌<◌}
use native.Mathlib.Omega.{arith}
use native.Mathlib.Nat.{one-mul, mod-lt}
use lib.Dec.{lit<}
use lib.Pow.{shl_exact, pow_mono, pow_pos}
use lib.Count.{ones}
use Rattle.map_bits.specs.Bits.{sum_from}
use Rattle.map_bits.proofs.Counts.{digit, ones_sum}

shifted : (k : ℕ) → k ≤ 32 → (1 * 2 ^ k) % 18446744073709551616 ≡ 2 ^ k
shifted k h = shl_exact {a = 1} 1 k 64 (lit< tt) (omega arith) ∙ one-mul (2 ^ k)

most : (k : ℕ) → k ≤ 32 → 2 ^ k ≤ 4294967296
most k h = pow_mono {i = k} {j = 32} h

module _ (lo hi : ℕ) (p : lo ≤ hi) (q : hi ≤ 32) where
  pub mask_order : (1 * 2 ^ lo) % 18446744073709551616 ≤ (1 * 2 ^ hi) % 18446744073709551616
  mask_order = omega (arith, shifted lo (omega arith), shifted hi q, pow_mono {i = lo} {j = hi} p)

  pub mask_fits : (1 * 2 ^ hi) % 18446744073709551616 - (1 * 2 ^ lo) % 18446744073709551616 < 4294967296
  mask_fits = omega (arith, shifted lo (omega arith), shifted hi q, most hi q, pow_pos lo)

  pub mask_is : (1 * 2 ^ hi) % 18446744073709551616 - (1 * 2 ^ lo) % 18446744073709551616 + 2 ^ lo ≡ 2 ^ hi
  mask_is = omega (arith, shifted lo (omega arith), shifted hi q, pow_mono {i = lo} {j = hi} p)

  pub cut_some : 0 < (1 * 2 ^ (hi - lo)) % 18446744073709551616
  cut_some = omega (arith, shifted (hi - lo) (omega arith), pow_pos (hi - lo))

  pub cut_fits : (y : ℕ) → y % ((1 * 2 ^ (hi - lo)) % 18446744073709551616) < 4294967296
  cut_fits y =
      let z : y % ((1 * 2 ^ (hi - lo)) % 18446744073709551616) < (1 * 2 ^ (hi - lo)) % 18446744073709551616 = mod-lt y cut_some in
      omega (arith, z, shifted (hi - lo) (omega arith), most (hi - lo) (omega arith))

  pub cut_ones : (w : ℕ) → ones (w / 2 ^ lo % ((1 * 2 ^ (hi - lo)) % 18446744073709551616)) ≡ sum_from (hi - lo) lo (digit w)
  cut_ones w = ap (λ (m : ℕ). ones (w / 2 ^ lo % m)) (shifted (hi - lo) (omega arith)) ∙ ones_sum (hi - lo) lo w

pub turned_on : (on : Bool) (a b : ℕ) → on ≡ true → a ≡ cond on a b
turned_on true a b e = cc
turned_on false a b e = let z : ◌≡◌ {A = ℕ} 0 1 = cc in let x : ⊥ = omega arith in absurd x

pub turned_off : (on : Bool) (a b : ℕ) → on ≡ false → b ≡ cond on a b
turned_off true a b e = let z : ◌≡◌ {A = ℕ} 0 1 = cc in let x : ⊥ = omega arith in absurd x
turned_off false a b e = cc
