-- The planner's place: the blocks from it on are free, it is the lowest such place, and where it finds none there is none.
use mathlib.Core.Path.{◌≡◌}
use mathlib.Core.List.{List, [], ◌∷◌}
use mathlib.Core.Logic.{⊎_elim}
use Prim.Native.Nat.{ℕ, suc, ◌+◌, ◌-◌, ◌≤◌, ◌<◌}
use native.Mathlib.Omega.{arith}
use Rattle.fat_node.specs.Entry.{Bytes}
use Rattle.fat_node.specs.Node.{Run, run}
use Rattle.fat_node.proofs.Nodes.{le_or_lt}
use Rattle.fat_table.specs.Chain.{free_at}
use Rattle.fat_table.specs.Layout.{joined, covers}
use Rattle.fat_table.proofs.Layouts.{hits_lo, hits_hi, covers_append}
use Rattle.fat_table.proofs.Laying.{inside_of}
use Rattle.fat_table.proofs.Files.{Whole, seen}
use Rattle.fat_carve.specs.Carve.{fit, Window}
use Rattle.fat_carve.proofs.Carves.{fit_whole, fit_past, fit_found, fit_window, window_at}
use Rattle.fat_merge.specs.Merge.{Spread, tidied}
use Rattle.fat_merge.proofs.Stretches.{spread_lo}
use Rattle.fat_merge.proofs.Merges.{tidied_spread, tidied_covers}
use Rattle.fat_plan.specs.Plan.{lowest}
use Rattle.fat_plan.specs.Inner.Moves.{Open}

-- k blocks from m on in runs with gaps between them lie in one run, and so the first run of k blocks starts at m or before
fit_lowest : (l : List Run) (a m k : ℕ) → Spread a l → 1 ≤ k → ((x : ℕ) → m ≤ x → x < m + k → 1 ≤ covers x l) → (1 ≤ fit k l) × (fit k l ≤ suc m)
fit_lowest [] a m k s h g = let z : ⊥ = omega (arith, g m (omega arith) (omega (arith, h))) in absurd z
fit_lowest (r ∷ l) a m k s h g =
    let e : ℕ = r.start + r.size in
    let gap : (x : ℕ) → x < suc e → covers x l ≡ 0 = λ x j. spread_lo (suc e) l x s.1 j in
    ⊎_elim
    (λ low. ⊎_elim
    (λ past.
    let w = fit_lowest l (suc e) m k s.1 h (λ x p q. omega (arith, g x p q, hits_hi x r (omega (arith, past, p)))) in
    ⊎_elim
    (λ j. (omega (arith, fit_whole k r l j), omega (arith, fit_whole k r l j, low)))
    (λ j. (omega (arith, fit_past k r l j, w.0), omega (arith, fit_past k r l j, w.1)))
    (le_or_lt k r.size))
    (λ inside.
    let all : m + k ≤ e = ⊎_elim
    (λ j. j)
    (λ j. let z : ⊥ = omega (arith, g e (omega (arith, inside)) j, hits_hi e r (omega arith), gap e (omega arith)) in absurd z)
    (le_or_lt (m + k) e) in
    let j : k ≤ r.size = omega (arith, all, low) in
    (omega (arith, fit_whole k r l j), omega (arith, fit_whole k r l j, low)))
    (le_or_lt e m))
    (λ before. let z : ⊥ = omega (arith, g m (omega arith) (omega (arith, h)), hits_lo m r before, gap m (omega (arith, before))) in absurd z)
    (le_or_lt r.start m)

module _ (n : ℕ) (t : Bytes) (w : Whole n t) (k : ℕ) (some : 1 ≤ k) where
  same : (x : ℕ) → covers x (tidied n t) ≡ covers x (free_at n t)
  same = let s = seen n t w in tidied_covers n w.small t (free_at n t) s.files s.holds

  module _ (m : ℕ) (e : lowest n t k ≡ suc m) where
    window : Window m k (tidied n t)
    unfolding lowest
    window = fit_window k m (tidied n t) some (fit_found k (tidied n t) m e)

    -- the k blocks from it on are all free
    pub lowest_open : Open n t m k
    lowest_open x p q = omega (arith, window_at m k (tidied n t) window x p q, same x)

    pub lowest_within : m + k ≤ n
    lowest_within =
        let s = seen n t w in
        inside_of n (run m k) some (λ x. omega (arith, window.each x, same x, s.holds.tiled.once x, covers_append x (free_at n t) (joined s.files)))

    -- and no lower ones are
    pub lowest_least : (j : ℕ) → Open n t j k → m ≤ j
    unfolding lowest
    lowest_least j g = omega (arith, e, (fit_lowest (tidied n t) 0 j k (tidied_spread n t) some (λ x p q. omega (arith, g x p q, same x))).1)

  -- where it finds none, no k consecutive blocks are free
  pub lowest_none : lowest n t k ≡ 0 → (j : ℕ) → Open n t j k → ⊥
  unfolding lowest
  lowest_none e j g = omega (arith, e, (fit_lowest (tidied n t) 0 j k (tidied_spread n t) some (λ x p q. omega (arith, g x p q, same x))).0)
