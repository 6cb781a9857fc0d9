-- The counts that the passes find are those that the table's rule defines: the sizes along the free chain, summed, and the number of other chains.
use mathlib.Core.Path.{◌≡◌, refl, sym, subst}
use mathlib.Core.Bool.{Bool, true, false, cond}
use mathlib.Core.Logic.{◌⊎◌, inl, inr, ⊎_elim}
use Prim.Native.Nat.{ℕ, zero, suc, ◌+◌, ◌<◌, ◌≤◌}
use native.Mathlib.Nat.{eq-or-lt_of_le}
use native.Mathlib.Numerals.{add-one}
use native.Mathlib.Omega.{arith}
use lib.Dec.{eqb}
use borrow.Author.Tests.{eqb-true, eqb-false, lt-ltb, le-ltb}
use Rattle.fat_node.specs.Entry.{Bytes, v_at}
use Rattle.fat_node.specs.Node.{prev_at}
use Rattle.fat_table.specs.Sound.{Starts, Covered, Sound, Along, Counted, File}
use Rattle.fat_table.specs.Sound.Starts.{begin, after}
use Rattle.fat_table.specs.Sound.Along.{end, node}
use Rattle.fat_table.specs.Sound.Counted.{none, one, skip}
use Rattle.fat_table.specs.Chain.{total, size_at, chain_at}
use Rattle.fat_table.specs.Counts.{free_blocks, scan, starts, starts_of, other_chains}
use Rattle.fat_table.proofs.Sounds.{node_size}
use Rattle.fat_table.proofs.Counting.{counted_one}
use Rattle.fat_ends.proofs.Ends.{count_more}

-- ---- the free blocks
chain_total : {t : Bytes} {n i m : ℕ} → Along t n i m → (k : ℕ) → m ≤ k → total (chain_at t k i) ≡ m
chain_total end zero l = refl
chain_total end (suc k) l = refl
chain_total (node d p) zero l = absurd (omega (arith, d.some))
chain_total {t} {n} (node {b = b} {s = s} {m = m} d p) (suc k) l =
    rw (add-one b) (omega (arith, node_size t n b s d, chain_total p k (omega (arith, d.some))))

pub free_is : {t : Bytes} {n m : ℕ} → Along t n (v_at t 0) m → m ≤ n → m ≡ free_blocks n t
free_is {t} {n} p l = sym (chain_total p n l)

-- ---- the other chains
start_cases : (t : Bytes) (b : ℕ)
    → ((prev_at t b ≡ 0) × (v_at t 0 ≡ b + 1 → ⊥) × (starts t b ≡ 1)) ⊎ ((prev_at t b ≡ 0 → v_at t 0 ≡ b + 1) × (starts t b ≡ 0))
unfolding starts
start_cases t b = go (eqb (prev_at t b) 0) (eqb (v_at t 0) (b + 1)) refl refl
  where
    go : (x y : Bool) → eqb (prev_at t b) 0 ≡ x → eqb (v_at t 0) (b + 1) ≡ y
        → ((prev_at t b ≡ 0) × (v_at t 0 ≡ b + 1 → ⊥) × (cond {A = ℕ} x (cond y 0 1) 0 ≡ 1)) ⊎ ((prev_at t b ≡ 0 → v_at t 0 ≡ b + 1) × (cond {A = ℕ} x (cond y 0 1) 0 ≡ 0))
    go true true p q = inr ((λ _. eqb-true (v_at t 0) (b + 1) q), refl)
    go true false p q = inl (eqb-true (prev_at t b) 0 p, eqb-false (v_at t 0) (b + 1) q, refl)
    go false y p q = inr ((λ e. absurd (eqb-false (prev_at t b) 0 p e)), refl)

module _ (t : Bytes) (n : ℕ) (c : Covered t n) where
  scanned : (k b m : ℕ) → n ≤ b + k → b ≤ n → Starts t n b → Counted (File t n) b m → Counted (File t n) n (m + starts_of t (scan n t k b))
  scanned zero b m f l st p = subst (λ (x : ℕ). Counted (File t n) x (m + 0)) (omega arith) (subst (Counted (File t n) b) (omega arith) p)
  scanned (suc k) b m f l st p =
      ⊎_elim
      (λ e. rw (le-ltb b n (omega arith)) (subst (λ (x : ℕ). Counted (File t n) x (m + 0)) e (subst (Counted (File t n) b) (omega arith) p)))
      (λ h.
      let x = c b (st, h) in
      let z : size_at t b ≡ x.0 = node_size t n b x.0 x.1 in
      rw (lt-ltb b n h, z)
      (subst (Counted (File t n) n) (omega arith)
      (scanned k (b + x.0) (m + starts t b) (omega (arith, x.1.some)) x.1.within (after st x.1 refl) (count_more (st, h) x.1 p (start_cases t b)))))
      (eq-or-lt_of_le l)

  pub others_counted : Counted (File t n) n (other_chains n t)
  others_counted = subst (Counted (File t n) n) (omega arith) (scanned n 0 0 (omega arith) (omega arith) begin none)

  pub others_are : {m : ℕ} → Counted (File t n) n m → m ≡ other_chains n t
  others_are p = counted_one p others_counted refl

-- ---- a table in which no chain begins
none_of : {P : ℕ → Type 0} {n c : ℕ} → Counted P n c → c ≡ 0 → (b : ℕ) → b < n → P b → ⊥
none_of none e b h p = omega arith
none_of (one k q) e b h p = omega arith
none_of {P} (skip {n = m} k q) e b h p =
    let l : b ≤ m = omega (arith, h) in
    ⊎_elim (λ d. q (subst P d p)) (λ d. none_of k e b d p) (eq-or-lt_of_le l)

pub headless : {t : Bytes} {n files h : ℕ} → 0 < n → Counted (File t n) n files → h ≡ v_at t 0 → (files ≡ 0) × (h ≡ 0) → Sound t n → ⊥
headless {t} {n} pos k e z s =
    let r = s.whole 0 (begin, pos) in
    none_of k z.0 r.start r.node.1 (r.node, r.first, λ q. omega (arith, q, e, z.1))

-- the verdict on a sound table
pub counted : {t : Bytes} {n r files : ℕ} → Sound t n × Along t n (v_at t 0) r × (r ≤ n) × Counted (File t n) n files → Sound t n × (r ≡ free_blocks n t) × (files ≡ other_chains n t)
counted {t} {n} p = (p.0, free_is p.1 p.2, others_are t n p.0.covered p.3)
