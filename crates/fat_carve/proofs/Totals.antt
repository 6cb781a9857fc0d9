-- The blocks of a chain, counted block by block: chains that cover the same blocks have the same total. No table here.
use mathlib.Core.Path.{◌≡◌, refl, sym, ◌∙◌}
use mathlib.Core.List.{List, [], ◌∷◌}
use mathlib.Core.Logic.{⊎_elim}
use Prim.Native.Nat.{ℕ, zero, suc, ◌+◌, ◌-◌, ◌≤◌}
use native.Mathlib.Omega.{arith}
use Rattle.fat_node.specs.Node.{Run, run}
use Rattle.fat_node.proofs.Nodes.{le_or_lt}
use Rattle.fat_table.specs.Chain.{total}
use Rattle.fat_table.specs.Layout.{hits, covers, empties}
use Rattle.fat_table.proofs.Layouts.{hits_in, hits_lo, hits_hi}
use Rattle.fat_table.proofs.Laying.{inside_of}

-- f summed over the blocks below n
abbrev pub sum_to : ℕ → (ℕ → ℕ) → ℕ
sum_to zero f = 0
sum_to (suc n) f = f n + sum_to n f

pub sum_ext : (n : ℕ) (f g : ℕ → ℕ) → ((x : ℕ) → f x ≡ g x) → sum_to n f ≡ sum_to n g
sum_ext zero f g h = refl
sum_ext (suc n) f g h = omega (arith, h n, sum_ext n f g h)

pub sum_add : (n : ℕ) (f g : ℕ → ℕ) → sum_to n (λ x. f x + g x) ≡ sum_to n f + sum_to n g
sum_add zero f g = refl
sum_add (suc n) f g = omega (arith, sum_add n f g)

sum_none : (n : ℕ) → sum_to n (λ x. 0) ≡ 0
sum_none zero = refl
sum_none (suc n) = omega (arith, sum_none n)

module _ (r : Run) where
  sum_lo : (n : ℕ) → n ≤ r.start → sum_to n (λ x. hits x r) ≡ 0
  sum_lo zero h = refl
  sum_lo (suc n) h = omega (arith, hits_lo n r (omega arith), sum_lo n (omega arith))

  sum_mid : (n : ℕ) → r.start ≤ n → n ≤ r.start + r.size → sum_to n (λ x. hits x r) ≡ n - r.start
  sum_mid zero h k = omega arith
  sum_mid (suc n) h k = ⊎_elim
      (λ j. omega (arith, hits_in n r j (omega arith), sum_mid n j (omega arith)))
      (λ j. omega (arith, sum_lo (suc n) (omega arith)))
      (le_or_lt r.start n)

  pub sum_hits : (n : ℕ) → r.start + r.size ≤ n → sum_to n (λ x. hits x r) ≡ r.size
  sum_hits zero h = omega arith
  sum_hits (suc n) h = ⊎_elim
      (λ j. omega (arith, hits_hi n r j, sum_hits n j))
      (λ j. omega (arith, sum_mid (suc n) (omega arith) (omega arith)))
      (le_or_lt (r.start + r.size) n)

-- a chain's total is the number of blocks that it covers
pub total_sum : (n : ℕ) (l : List Run) → empties l ≡ 0 → ((x : ℕ) → covers x l ≤ hits x (run 0 n)) → sum_to n (λ x. covers x l) ≡ total l
total_sum n [] e c = sum_none n
total_sum n (r ∷ l) e c =
    omega (
      arith,
      sum_add n (λ x. hits x r) (λ x. covers x l),
      sum_hits r n (inside_of n r (omega arith) (λ x. omega (arith, c x))),
      total_sum n l (omega arith) (λ x. omega (arith, c x)),
    )

pub total_same : (n : ℕ) (a b : List Run) → empties a ≡ 0 → empties b ≡ 0 → ((x : ℕ) → covers x b ≤ hits x (run 0 n)) → ((x : ℕ) → covers x a ≡ covers x b)
    → total a ≡ total b
total_same n a b ea eb c h =
    sym (total_sum n a ea (λ x. omega (arith, c x, h x))) ∙ sum_ext n (λ x. covers x a) (λ x. covers x b) h ∙ total_sum n b eb c
