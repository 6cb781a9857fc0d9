-- Chains from mutual links: nodes whose links name each other, each reached from one with no previous, fall into chains. No table here.
use mathlib.Core.Path.{◌≡◌, refl, sym, ap, ◌∙◌}
use mathlib.Core.List.Memᴰ
use mathlib.Core.List.Permᴰ
use mathlib.Core.List.{List, [], ◌∷◌, ◌++◌, Permᴰ, Memᴰ}
use mathlib.Core.Bool.{Bool, true, false}
use mathlib.Core.Logic.{◌≢◌, ◌⊎◌, inl, inr, ⊎_elim}
use Prim.Native.Nat.{ℕ, zero, suc, ◌≤◌}
use native.Mathlib.Omega.{arith}
use lib.Dec.{eqb}
use lib.ListN.{length, length-append}
use borrow.Author.Tests.{eqb-true, eqb-false}
use Rattle.fat_node.specs.Node.{Run}
use Rattle.fat_table.specs.Layout.{joined, hits, covers, empties, blanks}
use Rattle.fat_table.specs.Steps.{first}
use Rattle.fat_table.proofs.Layouts.{hits_in, covers_perm, empties_perm, length_perm}

-- membership and order -----------------------------------------------------------------------------

abbrev pub In : Run → List Run → Type 0
In r l = Memᴰ r l

pub mem_perm : {r : Run} {a b : List Run} → Permᴰ a b → In r a → In r b
mem_perm Permᴰ.nil m = m
mem_perm (Permᴰ.cons e p) m = ⊎_elim (λ q. Memᴰ.head (q ∙ e)) (λ k. Memᴰ.tail (mem_perm p k)) (Memᴰ.cases_cons m)
mem_perm (Permᴰ.swap e e') m = ⊎_elim
    (λ q. Memᴰ.tail (Memᴰ.head (q ∙ e)))
    (λ k. ⊎_elim (λ q. Memᴰ.head (q ∙ e')) (λ o. Memᴰ.tail (Memᴰ.tail o)) (Memᴰ.cases_cons k))
    (Memᴰ.cases_cons m)
mem_perm (Permᴰ.trans p q) m = mem_perm q (mem_perm p m)

pub pick : {r : Run} {l : List Run} → In r l → (rest : List Run) × Permᴰ l (r ∷ rest)
pick (Memᴰ.head {xs = xs} e) = (xs, Permᴰ.cons (sym e) (Permᴰ.refl xs))
pick (Memᴰ.tail {x = x} m) = let w = pick m in (x ∷ w.0, Permᴰ.trans (Permᴰ.cons refl w.1) (Permᴰ.swap refl refl))

pub mem_hits : (x : ℕ) {r : Run} {l : List Run} → In r l → hits x r ≤ covers x l
mem_hits x (Memᴰ.head e) = omega (arith, ap (hits x) e)
mem_hits x (Memᴰ.tail m) = omega (arith, mem_hits x m)

pub mem_size : {r : Run} {l : List Run} → In r l → empties l ≡ 0 → 1 ≤ r.size
mem_size (Memᴰ.head e) h = omega (arith, ap (λ (s : Run). s.size) e)
mem_size (Memᴰ.tail m) h = mem_size m (omega arith)

pub mem_some : {r : Run} {l : List Run} → In r l → 1 ≤ length l
mem_some (Memᴰ.head e) = omega arith
mem_some (Memᴰ.tail m) = omega arith

pub zero_or_not : (a : ℕ) → (a ≡ 0) ⊎ (a ≢ 0)
zero_or_not a = go (eqb a 0) refl
  where
    go : (b : Bool) → eqb a 0 ≡ b → (a ≡ 0) ⊎ (a ≢ 0)
    go true e = inl (eqb-true a 0 e)
    go false e = inr (eqb-false a 0 e)

pub mem_right : {r : Run} (a : List Run) {b : List Run} → In r b → In r (a ++ b)
mem_right [] m = m
mem_right (x ∷ a) m = Memᴰ.tail (mem_right a m)

pub mem_left : {r : Run} {a : List Run} (b : List Run) → In r a → In r (a ++ b)
mem_left b (Memᴰ.head e) = Memᴰ.head e
mem_left b (Memᴰ.tail m) = Memᴰ.tail (mem_left b m)

pub mem_either : {r : Run} (a b : List Run) → In r (a ++ b) → In r a ⊎ In r b
mem_either [] b m = inr m
mem_either (x ∷ a) b m = ⊎_elim
    (λ q. inl (Memᴰ.head q))
    (λ k. ⊎_elim (λ o. inl (Memᴰ.tail o)) (λ o. inr o) (mem_either a b k))
    (Memᴰ.cases_cons m)

-- the chain that a node is in can be put first
pub chain_of : (r : Run) (cs : List (List Run)) → In r (joined cs) → (c : List Run) × (rest : List (List Run)) × Permᴰ cs (c ∷ rest) × In r c
chain_of r [] m = absurd (Memᴰ.not-nil m)
chain_of r (c ∷ cs) m = ⊎_elim
    (λ k. (c, cs, Permᴰ.refl (c ∷ cs), k))
    (λ k. let w = chain_of r cs k in (w.0, c ∷ w.1, Permᴰ.trans (Permᴰ.cons refl w.2) (Permᴰ.swap refl refl), w.3))
    (mem_either c (joined cs) m)

pub first_some : (c : List Run) (b : ℕ) → first c ≡ suc b → 1 ≤ length c
first_some [] b e = omega arith
first_some (r ∷ c) b e = omega arith

-- links --------------------------------------------------------------------------------------------

-- `prv b` and `nxt b`: the indices that the node at block b names, 0 for none
module _ (prv nxt : ℕ → ℕ) where
  -- a chain whose first node's previous is p: each next names the node after, the last names none
  abbrev pub Linked : ℕ → List Run → Type 0
  Linked p [] = Unit {0}
  Linked p (r ∷ l) = (prv r.start ≡ p) × (nxt r.start ≡ first l) × Linked (suc r.start) l

  abbrev pub AllPath : List (List Run) → Type 0
  AllPath [] = Unit {0}
  AllPath (c ∷ cs) = Linked 0 c × AllPath cs

  -- a node of l that the index i names, and whose previous is p
  abbrev pub Named : List Run → ℕ → ℕ → Type 0
  Named l i p = (s : Run) × In s l × (suc s.start ≡ i) × (prv s.start ≡ p)

  -- a node of l that the index i names, and whose next is q
  abbrev pub Namer : List Run → ℕ → ℕ → Type 0
  Namer l i q = (s : Run) × In s l × (suc s.start ≡ i) × (nxt s.start ≡ q)

  -- the node at a block is reached, by next links, from one with no previous
  pub data Reached : ℕ → Type 0 where
    root : {b : ℕ} → prv b ≡ 0 → Reached b
    after : {a b : ℕ} → Reached a → nxt a ≡ suc b → prv b ≡ suc a → Reached b

  -- the nodes left, where the chain being followed has come to a node p whose next is i
  record Inv (R : List Run) (p i : ℕ) : Type 0 where
    pending : i ≢ 0 → Named R i p
    next : (r : Run) → In r R → nxt r.start ≢ 0 → Named R (nxt r.start) (suc r.start)
    prev : (r : Run) → In r R → prv r.start ≢ 0 → Namer R (prv r.start) (suc r.start) ⊎ ((prv r.start ≡ p) × (i ≡ suc r.start))
    fresh : (s : Run) → In s R → suc s.start ≢ p
    sizes : empties R ≡ 0
    apart : (x : ℕ) → covers x R ≤ 1

  inv_close : (R : List Run) (p : ℕ) → Inv R p 0 → Inv R 0 0
  inv_close R p v = record {
    pending = λ h. absurd (h refl);
    next = v.next;
    prev = λ r m h. ⊎_elim (λ w. inl w) (λ w. let z : ⊥ = omega arith in absurd z) (v.prev r m h);
    fresh = λ s m h. omega arith;
    sizes = v.sizes;
    apart = v.apart;
  }

  inv_open : (R : List Run) (f : Run) → In f R → prv f.start ≡ 0 → Inv R 0 0 → Inv R 0 (suc f.start)
  inv_open R f m e v = record {
    pending = λ h. (f, m, refl, e);
    next = v.next;
    prev = λ r k h. ⊎_elim (λ w. inl w) (λ w. let z : ⊥ = omega arith in absurd z) (v.prev r k h);
    fresh = v.fresh;
    sizes = v.sizes;
    apart = v.apart;
  }

  module _ (R rest : List Run) (p i : ℕ) (s : Run) (v : Inv R p i) (π : Permᴰ R (s ∷ rest)) (e : suc s.start ≡ i) (e' : prv s.start ≡ p) where
    back : {r : Run} → In r rest → In r R
    back m = mem_perm (Permᴰ.symm π) (Memᴰ.tail m)

    forth : {r : Run} → In r R → (r ≡ s) ⊎ In r rest
    forth m = Memᴰ.cases_cons (mem_perm π m)

    self : In s R
    self = mem_perm (Permᴰ.symm π) (Memᴰ.head refl)

    diff : {r : Run} → In r rest → r.start ≢ s.start
    diff {r} m q =
        let hs : 1 ≤ s.size = mem_size self v.sizes in
        let hr : 1 ≤ r.size = mem_size (back m) v.sizes in
        omega (
          arith,
          v.apart s.start,
          covers_perm s.start π,
          mem_hits s.start m,
          hits_in s.start s (omega arith) (omega arith),
          hits_in s.start r (omega arith) (omega arith),
        )

    inv_next : Inv rest (suc s.start) (nxt s.start)
    inv_next = record {
      pending = λ h. let w = v.next s self h in ⊎_elim
          (λ q. absurd (v.fresh s self (sym w.3 ∙ ap (λ (r : Run). prv r.start) q ∙ e')))
          (λ m. (w.0, m, w.2, w.3))
          (forth w.1);
      next = λ r m h. let w = v.next r (back m) h in ⊎_elim
          (λ q. absurd (v.fresh r (back m) (sym w.3 ∙ ap (λ (r : Run). prv r.start) q ∙ e')))
          (λ k. (w.0, k, w.2, w.3))
          (forth w.1);
      prev = λ r m h. ⊎_elim
          (λ w. ⊎_elim
          (λ q. inr (sym w.2 ∙ ap (λ (r : Run). suc r.start) q, ap (λ (r : Run). nxt r.start) (sym q) ∙ w.3))
          (λ k. inl (w.0, k, w.2, w.3))
          (forth w.1))
          (λ w. absurd (diff m (omega arith)))
          (v.prev r (back m) h);
      fresh = λ r m h. diff m (omega arith);
      sizes = omega (arith, v.sizes, empties_perm π);
      apart = λ x. omega (arith, v.apart x, covers_perm x π);
    }

  -- the chain that the index i begins, and the nodes that are left
  peel : (k : ℕ) (R : List Run) (p i : ℕ) → length R ≤ k → Inv R p i
      → (c : List Run) × (rest : List Run) × Permᴰ R (c ++ rest) × Linked p c × (first c ≡ i) × Inv rest 0 0
  peel zero R p zero h v = ([], R, Permᴰ.refl R, tt, refl, inv_close R p v)
  peel zero R p (suc b) h v = let w = v.pending (λ q. omega arith) in let z : ⊥ = omega (arith, mem_some w.1) in absurd z
  peel (suc k) R p zero h v = ([], R, Permᴰ.refl R, tt, refl, inv_close R p v)
  peel (suc k) R p (suc b) h v =
      let w = v.pending (λ q. omega arith) in
      let s : Run = w.0 in
      let o = pick w.1 in
      let g = peel k o.0 (suc s.start) (nxt s.start) (omega (arith, length_perm o.1)) (inv_next R o.0 p (suc b) s v o.1 w.2 w.3) in
      (s ∷ g.0, g.1, Permᴰ.trans o.1 (Permᴰ.cons refl g.2), (w.3, sym g.4, g.3), w.2, g.5)

  any_first : (R : List Run) → ((f : Run) × In f R × (prv f.start ≡ 0)) ⊎ ((r : Run) → In r R → prv r.start ≢ 0)
  any_first [] = inr (λ r m. absurd (Memᴰ.not-nil m))
  any_first (r ∷ R) = ⊎_elim
      (λ e. inl (r, Memᴰ.head refl, e))
      (λ h. ⊎_elim
      (λ w. inl (w.0, Memᴰ.tail w.1, w.2))
      (λ g. inr (λ s m. ⊎_elim (λ q e. h (ap (λ (x : Run). prv x.start) (sym q) ∙ e)) (λ k. g s k) (Memᴰ.cases_cons m)))
      (any_first R))
      (zero_or_not (prv r.start))

  -- a ring is not reached
  no_ring : (R : List Run) → Inv R 0 0 → ((r : Run) → In r R → prv r.start ≢ 0) → {b : ℕ} → Reached b → (r : Run) → In r R → r.start ≡ b → ⊥
  no_ring R v g (root e) r m q = g r m (ap prv q ∙ e)
  no_ring R v g (after {a} {b} w n p) r m q = ⊎_elim
      (λ o. no_ring R v g w o.0 o.1 (omega (arith, o.2, ap prv q)))
      (λ o. omega arith)
      (v.prev r m (g r m))

  -- the nodes fall into chains
  abbrev pub Chains : List Run → Type 0
  Chains R = (cs : List (List Run)) × Permᴰ R (joined cs) × AllPath cs × (blanks cs ≡ 0)

  chains : (k : ℕ) (R : List Run) → length R ≤ k → Inv R 0 0 → ((r : Run) → In r R → Reached r.start) → Chains R
  chains zero [] h v g = ([], Permᴰ.nil, tt, refl)
  chains zero (r ∷ R) h v g = let z : ⊥ = omega arith in absurd z
  chains (suc k) [] h v g = ([], Permᴰ.nil, tt, refl)
  chains (suc k) (r ∷ R) h v g = go (any_first (r ∷ R)) (λ rest. chains k rest)
    where
      go : ((f : Run) × In f (r ∷ R) × (prv f.start ≡ 0)) ⊎ ((s : Run) → In s (r ∷ R) → prv s.start ≢ 0)
          → ((rest : List Run) → length rest ≤ k → Inv rest 0 0 → ((s : Run) → In s rest → Reached s.start) → Chains rest) → Chains (r ∷ R)
      go (inl w) ih =
          let o = peel (suc k) (r ∷ R) 0 (suc w.0.start) h (inv_open (r ∷ R) w.0 w.1 w.2 v) in
          let one : 1 ≤ length o.0 = first_some o.0 w.0.start o.4 in
          let d = ih o.1 (omega (arith, length_perm o.2, length-append o.0 o.1)) o.5
          (λ s m. g s (mem_perm (Permᴰ.symm o.2) (mem_right o.0 m))) in
          (o.0 ∷ d.0, Permᴰ.trans o.2 (Permᴰ.append_left o.0 d.1), (o.3, d.2), omega arith)
      go (inr none) ih = absurd (no_ring (r ∷ R) v none (g r (Memᴰ.head refl)) r (Memᴰ.head refl) refl)

  -- closed nodes that are all reached fall into chains
  pub into_chains : (R : List Run) → empties R ≡ 0 → ((x : ℕ) → covers x R ≤ 1)
      → ((r : Run) → In r R → nxt r.start ≢ 0 → Named R (nxt r.start) (suc r.start))
      → ((r : Run) → In r R → prv r.start ≢ 0 → Namer R (prv r.start) (suc r.start))
      → ((r : Run) → In r R → Reached r.start) → Chains R
  into_chains R e c n p g = chains (length R) R (omega arith)
      (record { pending = λ h. absurd (h refl); next = n; prev = λ r m h. inl (p r m h); fresh = λ s m h. omega arith; sizes = e; apart = c }) g

  -- and what a chain is made of
  pub path_next : (p : ℕ) (l : List Run) → Linked p l → (r : Run) → In r l → nxt r.start ≢ 0 → Named l (nxt r.start) (suc r.start)
  path_next p [] w r m h = absurd (Memᴰ.not-nil m)
  path_next p (a ∷ []) w r m h = ⊎_elim
      (λ q. absurd (h (ap (λ (x : Run). nxt x.start) q ∙ w.1)))
      (λ k. absurd (Memᴰ.not-nil k))
      (Memᴰ.cases_cons m)
  path_next p (a ∷ b ∷ l) w r m h = ⊎_elim
      (λ q. (b, Memᴰ.tail (Memᴰ.head refl), sym w.1 ∙ ap (λ (x : Run). nxt x.start) (sym q), w.2.0 ∙ ap (λ (x : Run). suc x.start) (sym q)))
      (λ k. let o = path_next (suc a.start) (b ∷ l) w.2 r k h in (o.0, Memᴰ.tail o.1, o.2, o.3))
      (Memᴰ.cases_cons m)

  pub path_prev : (p : ℕ) (l : List Run) → Linked p l → (r : Run) → In r l
      → ((prv r.start ≡ p) × (first l ≡ suc r.start)) ⊎ Namer l (prv r.start) (suc r.start)
  path_prev p [] w r m = absurd (Memᴰ.not-nil m)
  path_prev p (a ∷ l) w r m = ⊎_elim
      (λ q. inl (ap (λ (x : Run). prv x.start) q ∙ w.0, ap (λ (x : Run). suc x.start) (sym q)))
      (λ k. ⊎_elim
      (λ o. inr (a, Memᴰ.head refl, sym o.0, w.1 ∙ o.1))
      (λ o. inr (o.0, Memᴰ.tail o.1, o.2, o.3))
      (path_prev (suc a.start) l w.2 r k))
      (Memᴰ.cases_cons m)
