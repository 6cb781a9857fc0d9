-- One block: whether it is in, and put in or taken out.
use mathlib.Core.Path.{◌≡◌, sym, subst}
use mathlib.Core.List.{List}
use mathlib.Core.Bool.{Bool}
use Prim.Native.Nat.{ℕ, ◌+◌, ◌*◌, ◌/◌, ◌%◌, ◌^◌, ◌≤◌}
use native.Mathlib.Omega.{arith}
use lib.Dec.{eqb}
use lib.ListN.{length, get_or}
use borrow.Author.Tests.{eqb-true, eq-eqb}
use Rattle.order.specs.Tells.{Tells}
use Rattle.map_bits.specs.Bits.{words_from, bit}
use Rattle.map_bits.specs.Inner.Turns.{Turn, Turnable}

pub set_says : (a b : ℕ) → Tells (a ≡ b) (eqb a b)
set_says a b = record { yes = λ e. eqb-true a b e; only = λ e. eq-eqb a b e }

pub bit_says : (map : List ℕ) (x : ℕ) (r : Bool) → Tells (get_or map (x / 32) 0 / 2 ^ (x % 32) % 2 ≡ 1) r → Tells (bit map x ≡ 1) r
unfolding bit
bit_says map x r s = s

module _ (on : Bool) (map : List ℕ) (x : ℕ) where
  low : 32 * (x / 32) + x % 32 ≡ x
  low = omega arith

  high : 32 * (x / 32) + (x % 32 + 1) ≡ x + 1
  high = omega arith

  pub one_turnable : Turnable on map x (x + 1) → (x % 32 + 1 ≤ 32) × Turnable on map (32 * (x / 32) + x % 32) (32 * (x / 32) + (x % 32 + 1))
  one_turnable t = (
    omega arith,
    subst (λ (a : ℕ). Turnable on map a (32 * (x / 32) + (x % 32 + 1))) (sym low) (subst (λ (b : ℕ). Turnable on map x b) (sym high) t),
  )

  pub one_turned : (map' : List ℕ)
      → ((c d : ℕ → ℕ) → Turn on map c d (32 * (x / 32) + x % 32) (32 * (x / 32) + (x % 32 + 1)) → map' ≡ words_from (length map) 0 d)
      → (c d : ℕ → ℕ) → Turn on map c d x (x + 1) → map' ≡ words_from (length map) 0 d
  one_turned map' s c d t =
      s c d (subst (λ (a : ℕ). Turn on map c d a (32 * (x / 32) + (x % 32 + 1))) (sym low) (subst (λ (b : ℕ). Turn on map c d x b) (sym high) t))
