-- Two ways to say that the nodes cover the blocks end to end are one: wherever a node is due one stands; and from block 0, node after node, one comes to n.
use mathlib.Core.Path.{◌≡◌, refl, subst}
use mathlib.Core.List.{List}
use mathlib.Core.Logic.{⊎_elim}
use Prim.Native.Nat.{ℕ, zero, suc, ◌+◌, ◌≤◌}
use native.Mathlib.Nat.{eq-or-lt_of_le}
use native.Mathlib.Omega.{arith}
use Rattle.fat_node.specs.Node.{NodeAt}
use Rattle.fat_table.specs.Sound.{Starts, Covered}
use Rattle.fat_table.specs.Sound.Starts.{begin, after}
use Rattle.fat_ends.proofs.Laws.{one_size}

-- with fuel for the blocks that are left
reach : (t : List ℕ) (n : ℕ) → Covered t n → (k b : ℕ) → n ≤ b + k → b ≤ n → Starts t n b → Starts t n n
reach t n c zero b f l st = subst (Starts t n) (omega arith) st
reach t n c (suc k) b f l st =
    ⊎_elim
    (λ e. subst (Starts t n) e st)
    (λ h.
    let x = c b (st, h) in
    reach t n c k (b + x.0) (omega (arith, x.1.some)) x.1.within (after st x.1 refl))
    (eq-or-lt_of_le l)

pub to_the_end : (t : List ℕ) (n : ℕ) → Covered t n → Starts t n n
to_the_end t n c = reach t n c n 0 (omega arith) (omega arith) begin

-- from b, node after node, one comes to m
data From (t : List ℕ) (n m : ℕ) : ℕ → Type 0 where
  there : {b : ℕ} → b ≡ m → From t n m b
  step : {b s : ℕ} → NodeAt t n b s → From t n m (b + s) → From t n m b

turn : {t : List ℕ} {n m b : ℕ} → Starts t n b → From t n m b → From t n m 0
turn begin g = g
turn {t} {n} {m} (after {b = b} {s = s} st k e) g = turn st (step k (subst (From t n m) e g))

onward : {t : List ℕ} {n m : ℕ} → From t n m 0 → (b : ℕ) → Starts t n b → b ≤ m → From t n m b
onward g b begin l = g
onward {t} {n} {m} g b (after {b = c} {s = s} st k e) l = go (onward g c st (omega (arith, k.some)))
  where
    go : From t n m c → From t n m b
    go (there q) = absurd (omega (arith, k.some))
    go (step {s = s'} k' f) = subst (From t n m) (omega (arith, one_size t n c s s' k k')) f

pub from_the_end : (t : List ℕ) (n : ℕ) → Starts t n n → Covered t n
from_the_end t n st b i = go (onward (turn st (there refl)) b i.0 (omega (arith, i.1)))
  where
    go : From t n n b → (s : ℕ) × NodeAt t n b s
    go (there q) = absurd (omega (arith, i.1))
    go (step {s = s} k f) = (s, k)
