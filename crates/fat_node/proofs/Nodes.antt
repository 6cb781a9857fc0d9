-- The laws of a written node: what is read back, which entries stay, and the head.
use Prim.Native.Nat.{ℕ, ◌+◌, ◌*◌, ◌%◌, ◌≤◌, ◌<◌}
use mathlib.Core.Path.{◌≡◌, refl, ap, subst, ◌∙◌}
use mathlib.Core.Bool.{Bool, true, false, cond}
use mathlib.Core.Logic.{◌≢◌, ◌⊎◌, inl, inr, ⊎_elim}
use native.Mathlib.Omega.{arith}
use lib.Dec.{eqb, leb}
use lib.ListN.{length}
use borrow.Author.Tests.{eqb-true, eqb-false, eq-eqb, ne_eqb, leb-true, leb-false}
use Rattle.words.proofs.Laws as words
use Rattle.fat_node.specs.Entry.{Bytes, Entry, entry, get, put, top, u_at, v_at}
use Rattle.fat_node.specs.Node.{Run, prev_at, next_at, NodeAt, prev_half, next_half, start_entry, span_entry, set_node, set_head}
use Rattle.fat_node.proofs.Entries.{length_put, get_put, get_other, get_before, get_after, bytes_put, put_same}

-- the halves of a start entry ---------------------------------------------------------------------

pub one_or_more : (s : ℕ) → (s ≡ 1) ⊎ (s ≢ 1)
one_or_more s = go (eqb s 1) refl
  where
    go : (b : Bool) → eqb s 1 ≡ b → (s ≡ 1) ⊎ (s ≢ 1)
    go true e = inl (eqb-true s 1 e)
    go false e = inr (eqb-false s 1 e)

pub le_or_lt : (a b : ℕ) → (a ≤ b) ⊎ (b < a)
le_or_lt a b = go (leb a b) refl
  where
    go : (t : Bool) → leb a b ≡ t → (a ≤ b) ⊎ (b < a)
    go true e = inl (leb-true a b e)
    go false e = inr (leb-false a b e)

pub prev_half_none : (p : ℕ) → p ≡ 0 → prev_half p ≡ top
unfolding prev_half
prev_half_none p e = rw (eq-eqb p 0 e)

pub prev_half_some : (p : ℕ) → p ≢ 0 → prev_half p ≡ p
unfolding prev_half
prev_half_some p e = rw (ne_eqb p 0 e)

pub next_half_one : (s q : ℕ) → s ≡ 1 → next_half s q ≡ q
unfolding next_half
next_half_one s q e = rw (eq-eqb s 1 e)

pub next_half_more : (s q : ℕ) → s ≢ 1 → next_half s q ≡ top + q
unfolding next_half
next_half_more s q e = rw (ne_eqb s 1 e)

pub prev_half_fits : (p : ℕ) → p < 2147483648 → prev_half p < 4294967296
unfolding prev_half
prev_half_fits p h = go (eqb p 0)
  where
    go : (b : Bool) → cond {A = ℕ} b top p < 4294967296
    go true = omega arith
    go false = omega arith

pub next_half_fits : (s q : ℕ) → q < 2147483648 → next_half s q < 4294967296
unfolding next_half
next_half_fits s q h = go (eqb s 1)
  where
    go : (b : Bool) → cond {A = ℕ} b q (top + q) < 4294967296
    go true = omega arith
    go false = omega arith

-- the flag alone or an index alone, and the index is the one that was written
pub prev_half_form : (p : ℕ) → p < 2147483648 → (0 < prev_half p) × (prev_half p ≤ top)
unfolding prev_half
prev_half_form p h = go (eqb p 0) refl
  where
    go : (b : Bool) → eqb p 0 ≡ b → (0 < cond {A = ℕ} b top p) × (cond {A = ℕ} b top p ≤ top)
    go true e = (omega arith, omega arith)
    go false e = let ne = eqb-false p 0 e in (omega arith, omega arith)

pub prev_half_index : (p : ℕ) → p < 2147483648 → prev_half p % top ≡ p
unfolding prev_half
prev_half_index p h = go (eqb p 0) refl
  where
    go : (b : Bool) → eqb p 0 ≡ b → cond {A = ℕ} b top p % top ≡ p
    go true e = let z = eqb-true p 0 e in omega arith
    go false e = omega arith

pub next_half_index : (s q : ℕ) → q < 2147483648 → next_half s q % top ≡ q
unfolding next_half
next_half_index s q h = go (eqb s 1)
  where
    go : (b : Bool) → cond {A = ℕ} b q (top + q) % top ≡ q
    go true = omega arith
    go false = omega arith

-- a node written ----------------------------------------------------------------------------------

pub length_set_node : (t : Bytes) (r : Run) (p q : ℕ) → length (set_node t r p q) ≡ length t
unfolding set_node
length_set_node t r p q = go (eqb r.size 1)
  where
    go : (b : Bool)
        → length
        (cond b (put t (r.start + 1) (start_entry r p q))
        (put (put (put t (r.start + 1) (start_entry r p q)) (r.start + 2) (span_entry r)) (r.start + r.size) (span_entry r)))
        ≡ length t
    go true = simp length_put
    go false = simp length_put

module _ (t : Bytes) (r : Run) (p q : ℕ) where
  pub set_node_one : r.size ≡ 1 → set_node t r p q ≡ put t (r.start + 1) (start_entry r p q)
  unfolding set_node
  set_node_one e = rw (eq-eqb r.size 1 e)

  pub set_node_more : r.size ≢ 1
      → set_node t r p q
      ≡ put (put (put t (r.start + 1) (start_entry r p q)) (r.start + 2) (span_entry r)) (r.start + r.size) (span_entry r)
  unfolding set_node
  set_node_more e = rw (ne_eqb r.size 1 e)

  -- an entry that is none of the node's one, two or three stays
  pub set_node_other : (i : ℕ) → i ≢ r.start + 1 → (r.size ≢ 1 → (i ≢ r.start + 2) × (i ≢ r.start + r.size))
      → get (set_node t r p q) i ≡ get t i
  set_node_other i h k =
      ⊎_elim
      (λ e. rw (set_node_one e) (get_other t (r.start + 1) (start_entry r p q) i h))
      (λ e.
      rw (set_node_more e)
      (get_other (put (put t (r.start + 1) (start_entry r p q)) (r.start + 2) (span_entry r)) (r.start + r.size) (span_entry r) i (k e).1
      ∙ get_other (put t (r.start + 1) (start_entry r p q)) (r.start + 2) (span_entry r) i (k e).0
      ∙ get_other t (r.start + 1) (start_entry r p q) i h))
      (one_or_more r.size)

  -- the entries before the node's, and after them
  pub set_node_before : (i : ℕ) → i ≤ r.start → 1 ≤ r.size → get (set_node t r p q) i ≡ get t i
  set_node_before i h k = set_node_other i (λ e. omega arith) (λ m. (λ e. omega arith, λ e. omega arith))

  pub set_node_after : (i : ℕ) → r.start + r.size < i → 1 ≤ r.size → get (set_node t r p q) i ≡ get t i
  set_node_after i h k = set_node_other i (λ e. omega arith) (λ m. (λ e. omega arith, λ e. omega arith))

  -- the entries between the second and the last are never written
  pub set_node_between : (i : ℕ) → r.start + 2 < i → i < r.start + r.size → get (set_node t r p q) i ≡ get t i
  set_node_between i h k = set_node_other i (λ e. omega arith) (λ m. (λ e. omega arith, λ e. omega arith))

  -- bytes stay bytes
  pub bytes_set_node : words.Bytes t → words.Bytes (set_node t r p q)
  bytes_set_node b =
      ⊎_elim
      (λ e. rw (set_node_one e) (bytes_put t (r.start + 1) (start_entry r p q) b))
      (λ e.
      rw (set_node_more e)
      (bytes_put (put (put t (r.start + 1) (start_entry r p q)) (r.start + 2) (span_entry r)) (r.start + r.size) (span_entry r)
      (bytes_put (put t (r.start + 1) (start_entry r p q)) (r.start + 2) (span_entry r) (bytes_put t (r.start + 1) (start_entry r p q) b))))
      (one_or_more r.size)

-- what is read back of a node that was written, of n blocks at most a million
module _ (n : ℕ) (small : n ≤ 1000000) (t : Bytes) (r : Run) (p q : ℕ) (len : length t ≡ 8 * (n + 1)) (pos : 1 ≤ r.size)
    (inside : r.start + r.size ≤ n) (hp : p ≤ n) (hq : q ≤ n) where
  start_put : get (put t (r.start + 1) (start_entry r p q)) (r.start + 1) ≡ start_entry r p q
  start_put =
      get_put t (r.start + 1) (start_entry r p q) (omega arith) (prev_half_fits p (omega arith)) (next_half_fits r.size q (omega arith))

  pub set_node_start : get (set_node t r p q) (r.start + 1) ≡ start_entry r p q
  set_node_start =
      ⊎_elim
      (λ e. rw (set_node_one t r p q e) start_put)
      (λ e.
      rw (set_node_more t r p q e)
      (get_before (put (put t (r.start + 1) (start_entry r p q)) (r.start + 2) (span_entry r)) (r.start + r.size) (span_entry r) (r.start + 1)
      (omega arith)
      ∙ get_before (put t (r.start + 1) (start_entry r p q)) (r.start + 2) (span_entry r) (r.start + 1) (omega arith)
      ∙ start_put))
      (one_or_more r.size)

  pub set_node_last : r.size ≢ 1 → get (set_node t r p q) (r.start + r.size) ≡ span_entry r
  set_node_last e =
      let t₁ : Bytes = put t (r.start + 1) (start_entry r p q) in
      let l₁ : length t₁ ≡ length t = length_put t (r.start + 1) (start_entry r p q) in
      let t₂ : Bytes = put t₁ (r.start + 2) (span_entry r) in
      let l₂ : length t₂ ≡ length t₁ = length_put t₁ (r.start + 2) (span_entry r) in
      rw (set_node_more t r p q e) (get_put t₂ (r.start + r.size) (span_entry r) (omega arith) (omega arith) (omega arith))

  pub set_node_second : r.size ≢ 1 → get (set_node t r p q) (r.start + 2) ≡ span_entry r
  set_node_second e =
      let t₁ : Bytes = put t (r.start + 1) (start_entry r p q) in
      let l₁ : length t₁ ≡ length t = length_put t (r.start + 1) (start_entry r p q) in
      ⊎_elim
      (λ k. subst (λ (i : ℕ). get (set_node t r p q) i ≡ span_entry r) (omega (arith, k)) (set_node_last e))
      (λ k.
      rw (set_node_more t r p q e)
      (get_before (put t₁ (r.start + 2) (span_entry r)) (r.start + r.size) (span_entry r) (r.start + 2) (omega (arith, k))
      ∙ get_put t₁ (r.start + 2) (span_entry r) (omega arith) (omega arith) (omega arith)))
      (le_or_lt r.size 2)

  pub set_node_u : u_at (set_node t r p q) (r.start + 1) ≡ prev_half p
  set_node_u = ap (λ (x : Entry). x.u) set_node_start

  pub set_node_v : v_at (set_node t r p q) (r.start + 1) ≡ next_half r.size q
  set_node_v = ap (λ (x : Entry). x.v) set_node_start

  -- the links are those that were written
  pub set_node_prev : prev_at (set_node t r p q) r.start ≡ p
  set_node_prev = ap (λ (x : Entry). x.u % top) set_node_start ∙ prev_half_index p (omega arith)

  pub set_node_next : next_at (set_node t r p q) r.start ≡ q
  set_node_next = ap (λ (x : Entry). x.v % top) set_node_start ∙ next_half_index r.size q (omega arith)

  -- and a node of that size stands there
  pub set_node_node : NodeAt (set_node t r p q) n r.start r.size
  set_node_node =
      record {
        some = omega arith;
        within = inside;
        prev = rw set_node_u (prev_half_form p (omega arith));
        one = λ k. rw (set_node_v, next_half_one r.size q k) (omega arith);
        more = λ k.
            let ne : r.size ≢ 1 = λ m. omega arith in
            let a = set_node_second ne in
            let b = set_node_last ne in (
              rw (set_node_v, next_half_more r.size q ne) (omega arith),
              (ap (λ (x : Entry). x.u) a, ap (λ (x : Entry). x.v) a),
              (ap (λ (x : Entry). x.u) b, ap (λ (x : Entry). x.v) b),
            );
      }

-- nodes that stand -----------------------------------------------------------------------------------

-- two tables that agree in a node's entries have the same node there
pub node_same : (t t' : Bytes) (n b s : ℕ) → get t' (b + 1) ≡ get t (b + 1) → (1 < s → (get t' (b + 2) ≡ get t (b + 2)) × (get t' (b + s) ≡ get t (b + s)))
    → NodeAt t n b s → NodeAt t' n b s
node_same t t' n b s e m w =
    let eu : u_at t' (b + 1) ≡ u_at t (b + 1) = ap (λ (x : Entry). x.u) e in
    let ev : v_at t' (b + 1) ≡ v_at t (b + 1) = ap (λ (x : Entry). x.v) e in
    record {
      some = w.some;
      within = w.within;
      prev = rw eu w.prev;
      one = λ k. rw ev (w.one k);
      more = λ k.
          let x = w.more k in
          let y = m k in (
            rw ev x.0,
            (ap (λ (z : Entry). z.u) y.0 ∙ x.1.0, ap (λ (z : Entry). z.v) y.0 ∙ x.1.1),
            (ap (λ (z : Entry). z.u) y.1 ∙ x.2.0, ap (λ (z : Entry). z.v) y.1 ∙ x.2.1),
          );
    }

-- a node that shares no block with the one that is written stays, with its links
module _ (t : Bytes) (r : Run) (p q : ℕ) (pos : 1 ≤ r.size) (n b s : ℕ) (apart : b < r.start + r.size → r.start < b + s → ⊥) where
  pub set_node_apart : (i : ℕ) → b < i → i ≤ b + s → get (set_node t r p q) i ≡ get t i
  set_node_apart i h k =
      ⊎_elim
      (λ m. set_node_before t r p q i m pos)
      (λ m.
      ⊎_elim
      (λ o. absurd (apart (omega (arith, m, o)) (omega (arith, m, o))))
      (λ o. set_node_after t r p q i o pos)
      (le_or_lt i (r.start + r.size)))
      (le_or_lt i r.start)

  pub node_apart : NodeAt t n b s → NodeAt (set_node t r p q) n b s
  node_apart w =
      let some = w.some in
      node_same t (set_node t r p q) n b s (set_node_apart (b + 1) (omega arith) (omega arith))
      (λ k. (set_node_apart (b + 2) (omega arith) (omega arith), set_node_apart (b + s) (omega arith) (omega arith)))
      w

-- the flag of v tells whether a node has one block
pub size_one : (t : Bytes) (n b s : ℕ) → NodeAt t n b s → v_at t (b + 1) < top → s ≡ 1
size_one t n b s w h =
    ⊎_elim
    (λ e. e)
    (λ e. let z : ⊥ = omega (arith, h, (w.more (omega (arith, e, w.some))).0) in absurd z)
    (one_or_more s)

pub size_more : (t : Bytes) (n b s : ℕ) → NodeAt t n b s → top ≤ v_at t (b + 1) → (1 < s) × (b + 2 ≤ n) × (v_at t (b + 2) ≡ b + s)
size_more t n b s w h =
    ⊎_elim
    (λ e. let z : ⊥ = omega (arith, h, w.one e) in absurd z)
    (λ e.
    let m : 1 < s = omega (arith, e, w.some) in
    (m, omega (arith, m, w.within), (w.more m).1.1))
    (one_or_more s)

-- a node has one size
pub node_one : (t : Bytes) (n b s s' : ℕ) → NodeAt t n b s → NodeAt t n b s' → s ≡ s'
node_one t n b s s' w w' =
    ⊎_elim
    (λ e.
    ⊎_elim
    (λ e'. omega (arith, e, e'))
    (λ e'. let z : ⊥ = omega (arith, w.one e, (w'.more (omega (arith, e', w'.some))).0) in absurd z)
    (one_or_more s'))
    (λ e.
    let m = w.more (omega (arith, e, w.some)) in
    ⊎_elim
    (λ e'. let z : ⊥ = omega (arith, w'.one e', m.0) in absurd z)
    (λ e'. omega (arith, m.1.1, (w'.more (omega (arith, e', w'.some))).1.1))
    (one_or_more s'))
    (one_or_more s)

-- the head ----------------------------------------------------------------------------------------------

pub length_set_head : (t : Bytes) (i : ℕ) → length (set_head t i) ≡ length t
unfolding set_head
length_set_head t i = length_put t 0 (entry 0 i)

pub bytes_set_head : (t : Bytes) (i : ℕ) → words.Bytes t → words.Bytes (set_head t i)
unfolding set_head
bytes_set_head t i b = bytes_put t 0 (entry 0 i) b

pub head_set : (t : Bytes) (i : ℕ) → 8 ≤ length t → i < 4294967296 → get (set_head t i) 0 ≡ entry 0 i
unfolding set_head
head_set t i h k = get_put t 0 (entry 0 i) (omega arith) (omega arith) k

-- the head set: no other entry changes
pub set_head_other : (t : Bytes) (i e : ℕ) → 0 < e → get (set_head t i) e ≡ get t e
unfolding set_head
set_head_other t i e h = get_after t 0 (entry 0 i) e h

pub node_set_head : (t : Bytes) (i n b s : ℕ) → NodeAt t n b s → NodeAt (set_head t i) n b s
node_set_head t i n b s w =
    node_same t (set_head t i) n b s (set_head_other t i (b + 1) (omega arith))
    (λ k. (set_head_other t i (b + 2) (omega arith), set_head_other t i (b + s) (omega (arith, k))))
    w

-- a node written where it stands already changes nothing
pub set_node_same : (t : Bytes) (r : Run) (p q : ℕ) → words.Bytes t → get t (r.start + 1) ≡ start_entry r p q
    → (r.size ≢ 1 → (get t (r.start + 2) ≡ span_entry r) × (get t (r.start + r.size) ≡ span_entry r)) → set_node t r p q ≡ t
set_node_same t r p q b e m =
    let a : put t (r.start + 1) (start_entry r p q) ≡ t = put_same t (r.start + 1) (start_entry r p q) b e in
    ⊎_elim
    (λ k. set_node_one t r p q k ∙ a)
    (λ k.
    set_node_more t r p q k
    ∙ ap (λ (x : Bytes). put (put x (r.start + 2) (span_entry r)) (r.start + r.size) (span_entry r)) a
    ∙ ap (λ (x : Bytes). put x (r.start + r.size) (span_entry r)) (put_same t (r.start + 2) (span_entry r) b (m k).0)
    ∙ put_same t (r.start + r.size) (span_entry r) b (m k).1)
    (one_or_more r.size)
