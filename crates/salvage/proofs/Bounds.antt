-- Runs inside n blocks that share none have no more than n blocks.
use mathlib.Core.Path.{◌≡◌, refl, ap}
use mathlib.Core.List.{List, [], ◌∷◌, ◌++◌}
use mathlib.Core.Logic.{⊎_elim}
use Prim.Native.Nat.{ℕ, zero, suc, ◌+◌, ◌-◌, ◌≤◌, ◌<◌}
use native.Mathlib.Omega.{arith}
use lib.ListN.{length}
use Rattle.fat_node.specs.Node.{Run, run}
use Rattle.fat_node.proofs.Nodes.{le_or_lt}
use Rattle.fat_table.specs.Chain.{total}
use Rattle.fat_table.specs.Layout.{hits, covers, empties}
use Rattle.fat_table.proofs.Layouts.{hits_in, hits_lo, hits_hi, hits_most, covers_append, empties_append}
use Rattle.fat_table.proofs.Laying.{inside_of}
use Rattle.salvage.specs.Follow.{shared}

-- the runs lie inside n blocks, share none, and none is empty
pub record Apart (n : ℕ) (l : List Run) : Type 0 where
  pub inside : (x : ℕ) → covers x l ≤ hits x (run 0 n)
  pub some : empties l ≡ 0

-- how many of the first m blocks are in a run, and in the runs of a list, each as often as it is
abbrev hits_to : ℕ → Run → ℕ
hits_to zero r = 0
hits_to (suc m) r = hits m r + hits_to m r

abbrev covers_to : ℕ → List Run → ℕ
covers_to zero l = 0
covers_to (suc m) l = covers m l + covers_to m l

low : (m : ℕ) (r : Run) → m ≤ r.start → hits_to m r ≡ 0
low zero r h = refl
low (suc m) r h = omega (arith, hits_lo m r (omega arith), low m r (omega arith))

mid : (m : ℕ) (r : Run) → r.start ≤ m → m ≤ r.start + r.size → hits_to m r ≡ m - r.start
mid zero r h k = omega arith
mid (suc m) r h k = ⊎_elim
    (λ e. omega (arith, hits_in m r e (omega arith), mid m r e (omega arith)))
    (λ e. omega (arith, hits_lo m r e, low m r (omega arith)))
    (le_or_lt r.start m)

high : (m : ℕ) (r : Run) → r.start + r.size ≤ m → hits_to m r ≡ r.size
high zero r h = omega arith
high (suc m) r h = ⊎_elim
    (λ e. omega (arith, hits_hi m r e, high m r e))
    (λ e. omega (arith, mid (suc m) r (omega arith) (omega arith)))
    (le_or_lt (r.start + r.size) m)

none : (m : ℕ) → covers_to m [] ≡ 0
none zero = refl
none (suc m) = omega (arith, none m)

one : (m : ℕ) (r : Run) (l : List Run) → covers_to m (r ∷ l) ≡ hits_to m r + covers_to m l
one zero r l = refl
one (suc m) r l = omega (arith, one m r l)

most : (m : ℕ) (l : List Run) → ((x : ℕ) → covers x l ≤ 1) → covers_to m l ≤ m
most zero l h = omega arith
most (suc m) l h = omega (arith, h m, most m l h)

all : (n : ℕ) (l : List Run) → empties l ≡ 0 → ((x : ℕ) → covers x l ≤ hits x (run 0 n)) → covers_to n l ≡ total l
all n [] e c = none n
all n (r ∷ l) e c =
    let i : r.start + r.size ≤ n = inside_of n r (omega arith) (λ x. omega (arith, c x)) in
    omega (arith, one n r l, high n r i, all n l (omega arith) (λ x. omega (arith, c x)))

pub total_apart : (n : ℕ) (l : List Run) → Apart n l → total l ≤ n
total_apart n l a = omega (arith, all n l a.some a.inside, most n l (λ x. omega (arith, a.inside x, hits_most x (run 0 n))))

pub length_total : (l : List Run) → empties l ≡ 0 → length l ≤ total l
length_total [] e = omega arith
length_total (r ∷ l) e = omega (arith, length_total l (omega arith))

-- a run with no block shared
pub shared_none : (s b : ℕ) (l : List Run) → shared s b l ≡ 0 → (x : ℕ) → b ≤ x → x < b + s → covers x l ≡ 0
shared_none zero b l e x h k = omega arith
shared_none (suc s) b l e x h k = ⊎_elim
    (λ o. shared_none s (suc b) l (omega arith) x o (omega arith))
    (λ o. let q : x ≡ b = omega (arith, h, o) in omega (arith, e, ap (λ (y : ℕ). covers y l) q))
    (le_or_lt (suc b) x)

pub none_shared : (s b : ℕ) (l : List Run) → ((x : ℕ) → b ≤ x → x < b + s → covers x l ≡ 0) → shared s b l ≡ 0
none_shared zero b l h = refl
none_shared (suc s) b l h = omega (arith, h b (omega arith) (omega arith), none_shared s (suc b) l (λ x i k. h x (omega arith) (omega arith)))

-- one more run
pub apart_on : (n : ℕ) (l : List Run) (b s : ℕ) → Apart n l → 0 < s → b + s ≤ n → shared s b l ≡ 0 → Apart n (l ++ run b s ∷ [])
apart_on n l b s a pos fits e = record {
  inside = λ x. ⊎_elim
      (λ h. ⊎_elim
      (λ k. omega (arith, covers_append x l (run b s ∷ []), hits_hi x (run b s) k, a.inside x))
      (λ k. omega (arith, covers_append x l (run b s ∷ []), hits_in x (run b s) h k, hits_in x (run 0 n) (omega arith) (omega arith), shared_none s b l e x h k))
      (le_or_lt (b + s) x))
      (λ h. omega (arith, covers_append x l (run b s ∷ []), hits_lo x (run b s) h, a.inside x))
      (le_or_lt b x);
  some = omega (arith, empties_append l (run b s ∷ []), a.some);
}

pub apart_none : (n : ℕ) → Apart n []
apart_none n = record { inside = λ x. omega arith; some = refl }
