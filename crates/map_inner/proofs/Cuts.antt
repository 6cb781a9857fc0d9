-- What is left of a chain, block by block. No table here.
use mathlib.Core.Path.{◌≡◌, refl, sym, ap, ◌∙◌}
use mathlib.Core.List.{List, [], ◌∷◌, ◌++◌}
use mathlib.Core.Logic.{⊎_elim}
use Prim.Native.Nat.{ℕ, zero, suc, ◌+◌, ◌-◌, ◌≤◌, ◌<◌}
use native.Mathlib.Omega.{arith}
use Rattle.fat_node.specs.Node.{Run, run}
use Rattle.fat_node.proofs.Nodes.{le_or_lt}
use Rattle.fat_table.specs.Chain.{total}
use Rattle.fat_table.specs.Layout.{taken, left, hits, covers, empties}
use Rattle.fat_table.proofs.Layouts.{taken_whole, taken_part, covers_cut, hits_split}
use Rattle.fat_step.proofs.Few.{cut_second}

taken_none : (B : List Run) (c : ℕ) → c ≡ 0 → taken B c ≡ []
taken_none [] c e = refl
taken_none (r ∷ B) zero e = refl
taken_none (r ∷ B) (suc c) e = let z : ⊥ = omega arith in absurd z

-- the first m blocks of a chain, where its first run has as many
first_part : (z : ℕ) (x : Run) (B : List Run) (m : ℕ) → 1 ≤ m → m ≤ x.size → covers z (taken (x ∷ B) m) ≡ hits z (run x.start m)
first_part z x B zero h k = let y : ⊥ = omega arith in absurd y
first_part z x B (suc m) h k = ⊎_elim
    (λ l.
    let e : x.size ≡ suc m = omega arith in
    let t : taken (x ∷ B) (suc m) ≡ x ∷ [] = taken_whole x B m l ∙ ap {B = List Run} (λ r. x ∷ r) (taken_none B (suc m - x.size) (omega arith)) in
    let f : hits z x ≡ hits z (run x.start (suc m)) = ap (λ (s : ℕ). hits z (run x.start s)) e in
    omega (arith, ap (covers z) t, f))
    (λ l. omega (arith, ap (covers z) (taken_part x B m l)))
    (le_or_lt x.size (suc m))

module _ (z : ℕ) (A : List Run) (x : Run) (B : List Run) (m c : ℕ) (e : empties A ≡ 0) (h : 1 ≤ m) (k : m ≤ x.size) (q : c ≡ total A + m) where
  -- the runs before are gone, and the first m blocks of the run
  pub left_covers : covers z (left (A ++ x ∷ B) c) + hits z (run x.start m) ≡ hits z x + covers z B
  left_covers =
      let l : left (A ++ x ∷ B) c ≡ left (x ∷ B) m = (cut_second A (x ∷ B) c m q e).1 in
      omega (arith, ap (covers z) l, covers_cut z (x ∷ B) m, first_part z x B m h k)

  -- the same by the rest of the run
  pub left_rest : covers z (left (A ++ x ∷ B) c) ≡ hits z (run (x.start + m) (x.size - m)) + covers z B
  left_rest = omega (arith, left_covers, hits_split z x m k)
