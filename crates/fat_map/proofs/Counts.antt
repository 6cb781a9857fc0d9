-- The rows of the stretch query.
use mathlib.Core.Path.{◌≡◌, refl, ap}
use mathlib.Core.List.{List}
use mathlib.Core.Bool.{Bool, true, false}
use mathlib.Core.Logic.{◌⊎◌, inl, inr, ⊎_elim}
use Prim.Native.Nat.{ℕ, ◌+◌, ◌*◌, ◌/◌, ◌≤◌, ◌<◌}
use native.Mathlib.Omega.{arith}
use lib.Dec.{ltb}
use lib.ListN.{length}
use borrow.Author.Tests.{ltb-true, lt-ltb}
use Rattle.order.specs.Tells.{Tells}
use Rattle.order.specs.Answer.{Done, InvalidValue, WorkTooShort}
use Rattle.fat_node.proofs.Nodes.{le_or_lt}
use Rattle.map_bits.specs.Bits.{words_in, counted_in}
use Rattle.fat_map.specs.Count.{count_gives, CountPromise}

pub unfit_none : (n : ℕ) → n < 1 → Tells ((n < 1) ⊎ (1000000 < n)) (ltb n 1)
unfit_none n h = record { yes = λ _. inl h; only = λ _. lt-ltb n 1 h }

pub unfit_many : (n : ℕ) → 1 ≤ n → Tells ((n < 1) ⊎ (1000000 < n)) (ltb 1000000 n)
unfit_many n h = record { yes = λ e. inr (ltb-true 1000000 n e); only = ⊎_elim (λ k. let z : ⊥ = omega arith in absurd z) (λ k. lt-ltb 1000000 n k) }

module _ (map : List ℕ) (n a b : ℕ) (u : Bool) (tells : Tells ((n < 1) ⊎ (1000000 < n)) u) where
  pub count_outside : u ≡ true → CountPromise map n a b (count_gives InvalidValue 0)
  count_outside e = inl (tells.yes e, refl)

  module _ (e : u ≡ false) where
    fits : (n < 1) ⊎ (1000000 < n) → ⊥
    fits h =
        let t : u ≡ true = tells.only h in
        let z : ◌≡◌ {A = ℕ} 0 1 = cc in
        omega (arith, z)

    pub count_few : (1 ≤ n) × (n ≤ 1000000)
    count_few = (
      ⊎_elim (λ h. h) (λ h. absurd (fits (inl (omega arith)))) (le_or_lt 1 n),
      ⊎_elim (λ h. h) (λ h. absurd (fits (inr h))) (le_or_lt n 1000000),
    )

    module _ (w : ℕ) (q : w ≡ words_in n) where
      pub count_short : length map < w → CountPromise map n a b (count_gives WorkTooShort 0)
      count_short h = inr (fits, inl (omega (arith, h, q), refl))

      module _ (h : w ≤ length map) where
        long : length map < words_in n → ⊥
        long k = omega (arith, h, q, k)

        pub count_crossed : b < a → CountPromise map n a b (count_gives InvalidValue 0)
        count_crossed k = inr (fits, inr (long, inl (inl k, refl)))

        pub count_over : n < b → CountPromise map n a b (count_gives InvalidValue 0)
        count_over k = inr (fits, inr (long, inl (inr k, refl)))

        pub count_room : b ≤ n → (b ≤ 32 * length map) × (b ≤ 1000000)
        count_room k = (omega (arith, h, q, k), omega (arith, k, count_few.1))

        pub count_done : (r : ℕ) → a ≤ b → b ≤ n → r ≡ counted_in map a b → CountPromise map n a b (count_gives Done r)
        count_done r k m c =
            inr (fits, inr (long, inr (⊎_elim (λ x. omega (arith, x, k)) (λ x. omega (arith, x, m)), ap (λ (x : ℕ). count_gives Done x) c)))
