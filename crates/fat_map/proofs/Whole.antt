-- What each bit of a sound table's map says, and the query over the whole volume.
use mathlib.Core.Path.{◌≡◌, refl, sym, ap, ◌∙◌}
use mathlib.Core.List.{List}
use mathlib.Core.Logic.{◌⊎◌, inl, inr, ⊎_elim}
use Prim.Native.Nat.{ℕ, zero, suc, ◌+◌, ◌-◌, ◌*◌, ◌/◌, ◌%◌, ◌^◌, ◌≤◌, ◌<◌}
use native.Mathlib.Omega.{arith}
use native.Mathlib.Nat.{min-le_right}
use lib.ListN.{length, take, get_or, length-take}
use lib.Seq.{get_or-take}
use Rattle.words.proofs.Laws as words
use Rattle.order.specs.Giving.{giving}
use Rattle.order.specs.Answer.{Done}
use Rattle.order.proofs.One.{settled}
use Rattle.fat_node.specs.Entry.{Bytes}
use Rattle.fat_node.specs.Node.{run}
use Rattle.fat_node.specs.Sizes.{blocks, Misfit, Outside}
use Rattle.fat_node.proofs.Sizes.{fit, inside}
use Rattle.fat_table.specs.Sound.{Sound}
use Rattle.fat_table.specs.Chain.{free_at}
use Rattle.fat_table.specs.Counts.{free_blocks}
use Rattle.fat_table.specs.Layout.{hits, covers}
use Rattle.fat_table.proofs.Layouts.{hits_hi, hits_most}
use Rattle.fat_table.proofs.Files.{Whole}
use Rattle.fat_table.proofs.Decided.{sound_decided}
use Rattle.fat_fault.specs.Fault.{fault_of}
use Rattle.fat_test.specs.Promise.{Tested, TestPromise, test_done}
use Rattle.fat_carve.proofs.Totals.{sum_to, total_sum}
use Rattle.fat_walk.specs.Inner.Chains.{Chain}
use Rattle.fat_walk.proofs.Chains.{free_chain}
use Rattle.map_bits.specs.Bits.{words_from, words_in, bit, sum_from, counted_in}
use Rattle.map_bits.proofs.Words.{bit_words}
use Rattle.map_bits.proofs.Counts.{sum_same, sum_split}
use Rattle.map_inner.specs.Map.{map_of}
use Rattle.map_inner.proofs.Told.{length_map}
use Rattle.fat_map.specs.Gate.{IsMap}
use Rattle.fat_map.specs.Count.{Counted, count_gives, count_tests, CountPromise}
use Rattle.fat_map.proofs.Theorems.{size_not, value_not, short_not, broken_not}

-- the bits of the words that are looked at
bit_taken : (w : ℕ) (map : List ℕ) (x : ℕ) → x < 32 * w → bit (take w map) x ≡ bit map x
unfolding bit
bit_taken w map x h = ap (λ (k : ℕ). k / 2 ^ (x % 32) % 2) (get_or-take w map (x / 32) 0 (omega arith))

sum_to_lem : (n : ℕ) (c : ℕ → ℕ) → sum_from n 0 c ≡ sum_to n c
unfolding sum_from
sum_to_lem zero c = refl
sum_to_lem (suc n) c =
    let e : sum_from (suc n) 0 c ≡ sum_from (n + 1) 0 c = ap (λ (k : ℕ). sum_from k 0 c) (one_more n) in
    let f : sum_from 1 (0 + n) c ≡ c n = ap (λ (k : ℕ). c k + 0) (omega_zero n) ∙ plus_zero (c n) in
    omega (arith, e, f, sum_split n 1 0 c, sum_to_lem n c)
  where
    one_more : (n : ℕ) → suc n ≡ n + 1
    one_more n = omega arith

    omega_zero : (n : ℕ) → 0 + n ≡ n
    omega_zero n = omega arith

    plus_zero : (n : ℕ) → n + 0 ≡ n
    plus_zero n = omega arith

module _ (n : ℕ) (t : Bytes) (w : Whole n t) (map : List ℕ) (is : take (words_in n) map ≡ map_of n t) where
  free : Chain n t (free_at n t)
  free = (free_chain n t w).chain

  most : (x : ℕ) → covers x (free_at n t) ≤ 1
  most x = omega (arith, free.inside x, hits_most x (run 0 n))

  -- a bit is set exactly where its block is in the free chain
  pub bit_free : (x : ℕ) → x < 32 * words_in n → bit map x ≡ covers x (free_at n t)
  unfolding map_of
  bit_free x h = sym (bit_taken (words_in n) map x h) ∙ ap (λ (l : List ℕ). bit l x) is ∙ bit_words (words_in n) (λ y. covers y (free_at n t)) x h most

  -- and unused bits are 0
  pub bit_unused : (x : ℕ) → n ≤ x → x < 32 * words_in n → bit map x ≡ 0
  bit_unused x h k = omega (arith, bit_free x k, free.inside x, hits_hi x (run 0 n) (omega arith))

  -- the set bits of the whole volume are as many as the test's free blocks
  pub count_whole : counted_in map 0 n ≡ free_blocks n t
  unfolding counted_in
  count_whole =
      ap (λ (k : ℕ). sum_from k 0 (bit map)) (minus_zero n)
      ∙ sum_same n 0 (bit map) (λ x. covers x (free_at n t)) (λ x p q. bit_free x (omega arith))
      ∙ sum_to_lem n (λ x. covers x (free_at n t)) ∙ total_sum n (free_at n t) free.positive free.inside
    where
      minus_zero : (n : ℕ) → n - 0 ≡ n
      minus_zero n = omega arith

-- by the promises: where the test of a table answers Done, the query over all blocks of its map answers Done and the test's free count
module _ (t : Bytes) (g : words.Bytes t) (work : List ℕ) (o : Tested × List ℕ) (d : o.0.answer ≡ Done) where
  fits : TestPromise t work o → (Misfit t → ⊥) × (Outside t → ⊥) × ((Sound t (blocks t) → ⊥) → ⊥) × (o ≡ test_done t work)
  fits (inl h) = absurd (size_not (sym (ap (λ (x : Tested × List ℕ). x.0.answer) h.1) ∙ d))
  fits (inr (m, inl h)) = absurd (value_not (sym (ap (λ (x : Tested × List ℕ). x.0.answer) h.1) ∙ d))
  fits (inr (m, inr (i, inl h))) = absurd (short_not (sym (ap (λ (x : Tested × List ℕ). x.0.answer) h.1) ∙ d))
  fits (inr (m, inr (i, inr (s, inl h)))) = absurd (broken_not (fault_of (blocks t) t) (sym (ap (λ (x : Tested × List ℕ). x.0.answer) h.1) ∙ d))
  fits (inr (m, inr (i, inr (s, inr (u, e))))) = (m, i, u, e)

  pub count_tested : TestPromise t work o → (map : List ℕ) → IsMap t map → (q : Counted) → CountPromise map (blocks t) 0 (blocks t) q → q ≡ count_gives Done o.0.free
  count_tested p map is q c =
      let f = fits p in
      let n : ℕ = blocks t in
      let few : (1 ≤ n) × (n ≤ 1000000) = inside t f.1 in
      let w : Whole n t = record { small = few.1; bytes = g; room = fit t f.0; sound = decided n few.1 (fit t f.0) f.2 } in
      let long : words_in n ≤ length map = omega (arith, length-take (words_in n) map, ap length is, length_map n t, min-le_right (words_in n) (length map)) in
      let e : o.0.free ≡ free_blocks n t = ap (λ (x : Tested × List ℕ). x.0.free) f.3 in
      settled (giving (λ x. count_gives x 0) (count_tests map n 0 n)) (count_gives Done (counted_in map 0 n)) q
      ((⊎_elim (λ h. omega arith) (λ h. omega arith)), ((λ h. omega arith), ((⊎_elim (λ h. omega arith) (λ h. omega arith)), tt))) c
      ∙ ap (λ (k : ℕ). count_gives Done k) (count_whole n t w map is ∙ sym e)
    where
      decided : (n : ℕ) → n ≤ 1000000 → length t ≡ 8 * (n + 1) → ((Sound t n → ⊥) → ⊥) → Sound t n
      decided n few room k = ⊎_elim (λ s. s) (λ s. absurd (k s)) (sound_decided n few t g room)
