-- What the writers of links return, from what they call.
use mathlib.Core.Path.{◌≡◌, refl, sym, ap, ◌∙◌}
use Prim.Native.Nat.{ℕ, zero, suc, ◌+◌, ◌-◌, ◌*◌, ◌≤◌}
use native.Mathlib.Omega.{arith}
use lib.ListN.{length}
use borrow.Author.Tests.{eq-eqb, ne_eqb}
use Rattle.fat_node.specs.Entry.{Bytes}
use Rattle.fat_node.specs.Node.{run, prev_at, next_at, set_node, set_head}
use Rattle.fat_table.specs.Chain.{size_at}
use Rattle.fat_walk.specs.Inner.Chains.{Standing, StandingAt}
use Rattle.fat_step.specs.Inner.Writes.{with_prev, join_at, end_at, split_at, cut_at}
use Rattle.fat_walk.proofs.Nodes.{standing_size}

pub with_none : (t : Bytes) (i p : ℕ) → i ≡ 0 → t ≡ with_prev t i p
unfolding with_prev
with_none t zero p e = refl
with_none t (suc i) p e = let z : ⊥ = omega arith in absurd z

pub with_some : (t u : Bytes) (i p s q : ℕ) → (i ≡ 0 → ⊥) → s ≡ size_at t (i - 1) → q ≡ next_at t (i - 1) → u ≡ set_node t (run (i - 1) s) p q → u ≡ with_prev t i p
unfolding with_prev
with_some t u zero p s q h e f w = absurd (h refl)
with_some t u (suc b) p s q h e f w =
    let z : suc b - 1 ≡ b = omega arith in
    w ∙ ap (λ (x : ℕ). set_node t (run (suc b - 1) x) p q) e ∙ ap (λ (x : ℕ). set_node t (run (suc b - 1) (size_at t (suc b - 1))) p x) f
    ∙ ap (λ (x : ℕ). set_node t (run x (size_at t x)) p (next_at t x)) z

pub at_standing : (n : ℕ) (t : Bytes) (i : ℕ) → StandingAt n t i → (i ≡ 0 → ⊥) → Standing n t (i - 1)
at_standing n t i w h = w (i - 1) (omega (arith, zero_or_not i h))
  where
    zero_or_not : (i : ℕ) → (i ≡ 0 → ⊥) → 1 ≤ i
    zero_or_not zero h = absurd (h refl)
    zero_or_not (suc i) h = omega arith

-- what a node that stands allows to be written
pub fits : (n : ℕ) (t : Bytes) (l b s p q : ℕ) → Standing n t b → l ≡ length t → s ≡ size_at t b → p ≤ n → q ≤ n
    → ((n ≤ 1000000) × (l ≡ 8 * (n + 1))) × (((1 ≤ s) × (b + s ≤ n)) × ((p ≤ n) × (q ≤ n)))
fits n t l b s p q w e f hp hq =
    let z = standing_size n t b w in
    ((w.few, e ∙ w.room), ((omega (arith, z.0), omega (arith, z.1)), (hp, hq)))

pub join_done : (t u v : Bytes) (y i s p : ℕ) → s ≡ size_at t y → p ≡ prev_at t y → u ≡ with_prev t i (y + 1) → v ≡ set_node u (run y s) p i → v ≡ join_at t y i
unfolding join_at
join_done t u v y i s p es ep eu ev =
    ev
    ∙ ap (λ (x : Bytes). set_node x (run y s) p i) eu
    ∙ ap (λ (x : ℕ). set_node (with_prev t i (y + 1)) (run y x) p i) es
    ∙ ap (λ (x : ℕ). set_node (with_prev t i (y + 1)) (run y (size_at t y)) x i) ep

pub end_done : (t u v x : Bytes) (b s p q : ℕ) → s ≡ size_at t b → p ≡ prev_at t b → q ≡ next_at t b → u ≡ with_prev t q 0 → v ≡ set_node u (run b s) p 0 → x ≡ set_head v q
    → x ≡ end_at t b
unfolding end_at
end_done t u v x b s p q es ep eq eu ev ex =
    ex
    ∙ ap (λ (z : Bytes). set_head z q) (ev ∙ ap (λ (z : Bytes). set_node z (run b s) p 0) eu)
    ∙ ap (λ (z : ℕ). set_head (set_node (with_prev t z 0) (run b s) p 0) z) eq
    ∙ ap (λ (z : ℕ). set_head (set_node (with_prev t (next_at t b) 0) (run b z) p 0) (next_at t b)) es
    ∙ ap (λ (z : ℕ). set_head (set_node (with_prev t (next_at t b) 0) (run b (size_at t b)) z 0) (next_at t b)) ep

pub split_done : (t u v x y : Bytes) (b m s p q : ℕ) → s ≡ size_at t b → p ≡ prev_at t b → q ≡ next_at t b → u ≡ with_prev t q (b + m + 1)
    → v ≡ set_node u (run b m) p 0 → x ≡ set_node v (run (b + m) (s - m)) 0 q → y ≡ set_head x (b + m + 1) → y ≡ split_at t b m
unfolding split_at
split_done t u v x y b m s p q es ep eq eu ev ex ey =
    ey
    ∙ ap (λ (z : Bytes). set_head z (b + m + 1)) (ex ∙ ap (λ (z : Bytes). set_node z (run (b + m) (s - m)) 0 q) (ev ∙ ap (λ (z : Bytes). set_node z (run b m) p 0) eu))
    ∙ ap (λ (z : ℕ). set_head (set_node (set_node (with_prev t z (b + m + 1)) (run b m) p 0) (run (b + m) (s - m)) 0 z) (b + m + 1)) eq
    ∙ ap (λ (z : ℕ). set_head (set_node (set_node (with_prev t (next_at t b) (b + m + 1)) (run b m) p 0) (run (b + m) (z - m)) 0 (next_at t b)) (b + m + 1)) es
    ∙ ap (λ (z : ℕ). set_head (set_node (set_node (with_prev t (next_at t b) (b + m + 1)) (run b m) z 0) (run (b + m) (size_at t b - m)) 0 (next_at t b)) (b + m + 1)) ep

pub cut_whole : (t u : Bytes) (b m s : ℕ) → s ≡ size_at t b → m ≡ s → u ≡ end_at t b → u ≡ cut_at t b m
unfolding cut_at
cut_whole t u b m s e h k = k ∙ rw (eq-eqb m (size_at t b) (h ∙ e))

pub cut_part : (t u : Bytes) (b m s : ℕ) → s ≡ size_at t b → (m ≡ s → ⊥) → u ≡ split_at t b m → u ≡ cut_at t b m
unfolding cut_at
cut_part t u b m s e h k = k ∙ rw (ne_eqb m (size_at t b) (λ z. h (z ∙ sym e)))
