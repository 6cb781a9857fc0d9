-- Runs that cover the same blocks are at least as many as the longest stretches of them: each stretch starts where a run must start. No table here.
use mathlib.Core.Path.{◌≡◌, refl}
use mathlib.Core.List.{List, [], ◌∷◌}
use mathlib.Core.Logic.{⊎_elim}
use Prim.Native.Nat.{ℕ, zero, suc, ◌+◌, ◌-◌, ◌≤◌, ◌<◌}
use native.Mathlib.Omega.{arith}
use lib.ListN.{length}
use Rattle.fat_node.specs.Node.{Run, run}
use Rattle.fat_node.proofs.Nodes.{le_or_lt}
use Rattle.fat_table.specs.Chain.{total}
use Rattle.fat_table.specs.Layout.{hits, covers, empties}
use Rattle.fat_table.proofs.Layouts.{hits_in, hits_lo, hits_hi, hits_most}
use Rattle.fat_carve.proofs.Totals.{sum_to, total_sum}
use Rattle.fat_merge.specs.Merge.{Spread}
use Rattle.fat_merge.proofs.Stretches.{spread_lo}

-- the first blocks of some runs, each a run of its own
abbrev heads : List Run → List Run
heads [] = []
heads (r ∷ l) = run r.start 1 ∷ heads l

heads_total : (l : List Run) → total (heads l) ≡ length l
heads_total [] = refl
heads_total (r ∷ l) = omega (arith, heads_total l)

heads_sizes : (l : List Run) → empties (heads l) ≡ 0
heads_sizes [] = refl
heads_sizes (r ∷ l) = omega (arith, heads_sizes l)

-- where a run is hit
hit_start : (x : ℕ) (r : Run) → 1 ≤ hits x r → r.start ≤ x
hit_start x r h = ⊎_elim (λ k. k) (λ k. let z : ⊥ = omega (arith, h, hits_lo x r k) in absurd z) (le_or_lt r.start x)

hit_end : (x : ℕ) (r : Run) → 1 ≤ hits x r → x < r.start + r.size
hit_end x r h = ⊎_elim (λ k. let z : ⊥ = omega (arith, h, hits_hi x r k) in absurd z) (λ k. k) (le_or_lt (r.start + r.size) x)

head_hit : (x : ℕ) (r : Run) → 1 ≤ hits x (run r.start 1) → x ≡ r.start
head_hit x r h = omega (arith, hit_start x (run r.start 1) h, hit_end x (run r.start 1) h)

heads_less : (x : ℕ) (l : List Run) → empties l ≡ 0 → covers x (heads l) ≤ covers x l
heads_less x [] e = omega arith
heads_less x (r ∷ l) e = ⊎_elim
    (λ k.
    let q = head_hit x r k in
    omega (arith, hits_most x (run r.start 1), hits_in x r (omega (arith, q)) (omega (arith, q, e)), heads_less x l (omega arith)))
    (λ k. omega (arith, k, heads_less x l (omega arith)))
    (le_or_lt 1 (hits x (run r.start 1)))

-- no run has the block before x
abbrev Gap : ℕ → List Run → Type 0
Gap x l = (y : ℕ) → suc y ≡ x → covers y l ≡ 0

-- where a stretch starts there is a gap before
record Starts (b x : ℕ) (l : List Run) : Type 0 where
  from : b ≤ x
  gap : Gap x l

spread_starts : (b x : ℕ) (l : List Run) → Spread b l → 1 ≤ covers x (heads l) → Starts b x l
spread_starts b x [] s h = let z : ⊥ = omega arith in absurd z
spread_starts b x (r ∷ l) s h = ⊎_elim
    (λ k.
    let q = head_hit x r k in
    record {
      from = omega (arith, q, s.0);
      gap = λ y e. omega (arith, hits_lo y r (omega (arith, e, q)), spread_lo (suc (r.start + r.size)) l y s.1 (omega (arith, e, q)));
    })
    (λ k.
    let i = spread_starts (suc (r.start + r.size)) x l s.1 (omega (arith, h, k)) in
    record {
      from = omega (arith, s.0, i.from);
      gap = λ y e. omega (arith, hits_hi y r (omega (arith, e, i.from)), i.gap y e);
    })
    (le_or_lt 1 (hits x (run r.start 1)))

-- a run that has a block with a gap before it starts there
gap_head : (x : ℕ) (l : List Run) → 1 ≤ covers x l → Gap x l → 1 ≤ covers x (heads l)
gap_head x [] h g = h
gap_head x (r ∷ l) h g = ⊎_elim
    (λ k. omega (arith, hits_in x (run r.start 1) (hit_start x r k) (omega (arith, not_before k))))
    (λ k. omega (arith, gap_head x l (omega (arith, h, k)) (λ y e. omega (arith, g y e))))
    (le_or_lt 1 (hits x r))
  where
    before : (y : ℕ) → suc y ≡ x → 1 ≤ hits x r → r.start ≤ y → ⊥
    before y e k j = omega (arith, g y e, hits_in y r j (omega (arith, e, hit_end x r k)))

    not_before : 1 ≤ hits x r → x ≤ r.start
    not_before k = ⊎_elim (λ j. j) (λ j. absurd (before (x - 1) (omega (arith, j)) k (omega (arith, j)))) (le_or_lt x r.start)

sum_less : (n : ℕ) (f g : ℕ → ℕ) → ((x : ℕ) → f x ≤ g x) → sum_to n f ≤ sum_to n g
sum_less zero f g h = omega arith
sum_less (suc n) f g h = omega (arith, h n, sum_less n f g h)

-- runs with gaps are the fewest that cover their blocks
pub spread_fewest : (n b : ℕ) (m l : List Run) → Spread b m → empties m ≡ 0 → empties l ≡ 0 → ((x : ℕ) → covers x l ≤ hits x (run 0 n))
    → ((x : ℕ) → covers x l ≡ covers x m)
    → length m ≤ length l
spread_fewest n b m l s em el c same =
    omega (
      arith,
      sum_less n (λ x. covers x (heads m)) (λ x. covers x (heads l)) less,
      total_sum n (heads m) (heads_sizes m) (λ x. omega (arith, heads_less x m em, c x, same x)),
      total_sum n (heads l) (heads_sizes l) (λ x. omega (arith, heads_less x l el, c x)),
      heads_total m,
      heads_total l,
    )
  where
    less : (x : ℕ) → covers x (heads m) ≤ covers x (heads l)
    less x = ⊎_elim
        (λ k.
        let i = spread_starts b x m s k in
        omega (
          arith,
          heads_less x m em,
          c x,
          same x,
          hits_most x (run 0 n),
          gap_head x l (omega (arith, k, heads_less x m em, same x)) (λ y e. omega (arith, i.gap y e, same y)),
        ))
        (λ k. omega (arith, k))
        (le_or_lt 1 (covers x (heads m)))
