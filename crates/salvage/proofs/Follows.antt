-- A walk along a chain, step by step, and what it leaves.
use mathlib.Core.Path.{◌≡◌, refl, sym, ap, ◌∙◌}
use mathlib.Core.List.Memᴰ
use mathlib.Core.List.{List, [], ◌∷◌, ◌++◌, append-nil, append_assoc}
use mathlib.Core.Bool.{Bool, true, false, cond}
use Prim.Native.Nat.{ℕ, zero, suc, ◌+◌, ◌%◌, ◌≤◌, ◌<◌}
use native.Mathlib.Omega.{arith}
use lib.Dec.{eqb}
use lib.ListN.{length, length-append}
use borrow.Author.Tests.{eqb-true, eq-eqb, ne_eqb}
use Rattle.order.specs.Answer.{fault, unbroken}
use Rattle.order.specs.declared.Fault.{Fault}
use Rattle.fat_node.specs.Entry.{Bytes, Entry, top}
use Rattle.fat_node.specs.Node.{Run, run, NodeAt, prev_at, next_at}
use Rattle.fat_node.proofs.Nodes.{node_same}
use Rattle.fat_table.specs.Chain.{size_at, chain_at}
use Rattle.fat_table.proofs.Sounds.{node_size}
use Rattle.salvage.specs.Follow.{readable, unread, shared, Salvage, salvage, missed, follow, SameIn}
use Rattle.salvage.proofs.Reading.{readable_node, unread_not, missed_not}
use Rattle.salvage.proofs.Bounds.{Apart, apart_on, total_apart, length_total}

-- ---- one step

module _ (k n : ℕ) (t : Bytes) (seen : List Run) (p : ℕ) where
  pub follow_whole : follow (suc k) n t seen p 0 ≡ salvage seen unbroken
  unfolding follow
  follow_whole = refl

  pub follow_none : (b : ℕ) → readable n t b ≡ false → follow (suc k) n t seen p (suc b) ≡ salvage seen (unread n t p b)
  unfolding follow
  follow_none b e = rw e

  pub follow_missed : (b : ℕ) → readable n t b ≡ true → (prev_at t b ≡ p → ⊥) → follow (suc k) n t seen p (suc b) ≡ salvage seen (missed p b)
  unfolding follow
  follow_missed b e h = rw (e, ne_eqb (prev_at t b) p h)

  pub follow_overlap : (b : ℕ) → readable n t b ≡ true → prev_at t b ≡ p → (shared (size_at t b) b seen ≡ 0 → ⊥)
      → follow (suc k) n t seen p (suc b) ≡ salvage seen (fault p 7)
  unfolding follow
  follow_overlap b e h o = rw (e, eq-eqb (prev_at t b) p h, ne_eqb (shared (size_at t b) b seen) 0 o)

  pub follow_on : (b : ℕ) → readable n t b ≡ true → prev_at t b ≡ p → shared (size_at t b) b seen ≡ 0
      → follow (suc k) n t seen p (suc b) ≡ follow k n t (seen ++ run b (size_at t b) ∷ []) (suc b) (next_at t b)
  unfolding follow
  follow_on b e h o = rw (e, eq-eqb (prev_at t b) p h, eq-eqb (shared (size_at t b) b seen) 0 o)

-- ---- what a walk leaves

-- from index i on, after the node that index p names, the runs of a list stand as nodes, each named by the one before and naming it back; the last names e
pub data Stands (n : ℕ) (t : Bytes) : ℕ → ℕ → List Run → ℕ → Type 0 where
  stop : {p i : ℕ} → Stands n t p i [] i
  node : {p b s e : ℕ} {l : List Run} → NodeAt t n b s → prev_at t b ≡ p → Stands n t (suc b) (next_at t b) l e → Stands n t p (suc b) (run b s ∷ l) e

-- what a walk adds to the runs seen
pub record Left (n : ℕ) (t : Bytes) (seen : List Run) (p i : ℕ) (s : Salvage) : Type 0 where
  pub rest : List Run
  pub end : ℕ
  pub is : s.runs ≡ seen ++ rest
  pub apart : Apart n s.runs
  pub stands : Stands n t p i rest end
  pub whole : s.why.rule ≡ 0 → end ≡ 0

left_none : (n : ℕ) (t : Bytes) (seen : List Run) (p i : ℕ) (w : Fault) → Apart n seen → (w.rule ≡ 0 → i ≡ 0) → Left n t seen p i (salvage seen w)
left_none n t seen p i w a h = record { rest = []; end = i; is = sym (append-nil seen); apart = a; stands = stop; whole = h }

left_on : (n : ℕ) (t : Bytes) (seen : List Run) (p b z : ℕ) (s : Salvage) → NodeAt t n b z → prev_at t b ≡ p
    → Left n t (seen ++ run b z ∷ []) (suc b) (next_at t b) s → Left n t seen p (suc b) s
left_on n t seen p b z s w e l = record {
  rest = run b z ∷ l.rest;
  end = l.end;
  is = l.is ∙ append_assoc seen (run b z ∷ []) l.rest;
  apart = l.apart;
  stands = node w e l.stands;
  whole = l.whole;
}

pub left : (k n : ℕ) (t : Bytes) (seen : List Run) (p i : ℕ) → Apart n seen → Left n t seen p i (follow k n t seen p i)
unfolding follow
left zero n t seen p i a = left_none n t seen p i (fault p 7) a (λ e. absurd (omega (arith, e)))
left (suc k) n t seen p zero a = left_none n t seen p 0 unbroken a (λ e. refl)
left (suc k) n t seen p (suc b) a =
    go (readable n t b) refl (eqb (prev_at t b) p) refl (eqb (shared (size_at t b) b seen) 0) refl (λ s. left k n t s (suc b) (next_at t b))
  where
    go : (x : Bool) → readable n t b ≡ x → (y : Bool) → eqb (prev_at t b) p ≡ y → (z : Bool) → eqb (shared (size_at t b) b seen) 0 ≡ z
        → ((s : List Run) → Apart n s → Left n t s (suc b) (next_at t b) (follow k n t s (suc b) (next_at t b)))
        → Left n t seen p (suc b)
        (cond x (cond y (cond z (follow k n t (seen ++ run b (size_at t b) ∷ []) (suc b) (next_at t b)) (salvage seen (fault p 7))) (salvage seen (missed p b))) (salvage seen (unread n t p b)))
    go true e true g true f ih =
        let w = readable_node n t b e in
        left_on n t seen p b (size_at t b) (follow k n t (seen ++ run b (size_at t b) ∷ []) (suc b) (next_at t b)) w (eqb-true (prev_at t b) p g)
        (ih (seen ++ run b (size_at t b) ∷ []) (apart_on n seen b (size_at t b) a w.some w.within (eqb-true (shared (size_at t b) b seen) 0 f)))
    go true e true g false f ih = left_none n t seen p (suc b) (fault p 7) a (λ q. absurd (omega (arith, q)))
    go true e false g z f ih = left_none n t seen p (suc b) (missed p b) a (λ q. absurd (missed_not p b q))
    go false e y g z f ih = left_none n t seen p (suc b) (unread n t p b) a (λ q. absurd (unread_not n t b p e q))

-- the bound on the nodes is never met: from n + 1 less the nodes seen on, a larger one changes nothing
pub enough : (k m n : ℕ) (t : Bytes) (seen : List Run) (p i : ℕ) → Apart n seen → n < length seen + k → k ≤ m → follow k n t seen p i ≡ follow m n t seen p i
unfolding follow
enough zero m n t seen p i a h l = absurd (omega (arith, h, length_total seen a.some, total_apart n seen a))
enough (suc k) zero n t seen p i a h l = absurd (omega (arith, l))
enough (suc k) (suc m) n t seen p zero a h l = refl
enough (suc k) (suc m) n t seen p (suc b) a h l =
    go (readable n t b) refl (eqb (prev_at t b) p) (eqb (shared (size_at t b) b seen) 0) refl
    (λ s o j. enough k m n t s (suc b) (next_at t b) o j (omega (arith, l)))
  where
    go : (x : Bool) → readable n t b ≡ x → (y z : Bool) → eqb (shared (size_at t b) b seen) 0 ≡ z
        → ((s : List Run) → Apart n s → n < length s + k → follow k n t s (suc b) (next_at t b) ≡ follow m n t s (suc b) (next_at t b))
        → cond x (cond y (cond z (follow k n t (seen ++ run b (size_at t b) ∷ []) (suc b) (next_at t b)) (salvage seen (fault p 7))) (salvage seen (missed p b))) (salvage seen (unread n t p b))
        ≡ cond x (cond y (cond z (follow m n t (seen ++ run b (size_at t b) ∷ []) (suc b) (next_at t b)) (salvage seen (fault p 7))) (salvage seen (missed p b))) (salvage seen (unread n t p b))
    go true e true true f ih =
        let w = readable_node n t b e in
        ih (seen ++ run b (size_at t b) ∷ []) (apart_on n seen b (size_at t b) a w.some w.within (eqb-true (shared (size_at t b) b seen) 0 f))
        (omega (arith, h, length-append seen (run b (size_at t b) ∷ [])))
    go true e true false f ih = refl
    go true e false z f ih = refl
    go false e y z f ih = refl

-- a table that is the same in the entries of a chain reads the same chain
pub stands_same : (n : ℕ) (t t' : Bytes) (p i e : ℕ) (l : List Run) → Stands n t p i l e → e ≡ 0 → SameIn t t' l → (m : ℕ) → length l ≤ m → chain_at t' m i ≡ l
stands_same n t t' p i e l stop z g m h = ap (chain_at t' m) z ∙ nil m
  where
    nil : (m : ℕ) → chain_at t' m 0 ≡ []
    nil zero = refl
    nil (suc m) = refl
stands_same n t t' p i e l (node {b = b} {s} w q r) z g zero h = let y : ⊥ = omega (arith, h) in absurd y
stands_same n t t' p i e l (node {b = b} {s} {l = l'} w back r) z g (suc m) h =
    let a = g (run b s) (Memᴰ.head refl) in
    let same : NodeAt t' n b s = node_same t t' n b s (sym a.start) (λ k. (sym (a.second k), sym (a.last k))) w in
    let q : next_at t' b ≡ next_at t b = ap (λ (x : Entry). x.v % top) (sym a.start) in
    rw (node_size t' n b s same, q)
    (ap {B = List Run} (λ x. run b s ∷ x) (stands_same n t t' (suc b) (next_at t b) e l' r z (λ x y. g x (Memᴰ.tail y)) m (omega (arith, h))))
