-- Writes of start entries, and what writes them again.
use mathlib.Core.Path.{◌≡◌, refl, sym, ap, ◌∙◌}
use mathlib.Core.List.{List, [], ◌∷◌, ◌++◌}
use mathlib.Core.Logic.{◌≢◌, ◌⊎◌, inl, inr, ⊎_elim}
use Prim.Native.Nat.{ℕ, suc, ◌+◌, ◌≤◌, ◌<◌}
use native.Mathlib.Omega.{arith}
use Rattle.words.proofs.Laws as words
use Rattle.fat_node.specs.Entry.{Bytes, Entry, put}
use Rattle.fat_node.specs.Node.{Run, start_entry, span_entry, set_node, set_head}
use Rattle.fat_node.proofs.Entries.{get_other, bytes_put, put_same, put_put, put_comm}
use Rattle.fat_node.proofs.Nodes.{le_or_lt, one_or_more, set_node_one, set_node_more}
use Rattle.fat_table.specs.Layout.{hits, covers, empties}
use Rattle.fat_table.specs.Steps.{first, lay, relaid}
use Rattle.fat_table.specs.Holds.{HoldsNode}
use Rattle.fat_table.proofs.Layouts.{hits_in}

module _ (t : Bytes) (r : Run) (p q : ℕ) where
  -- a node that stands gets other links: one entry is written
  pub set_node_link : {p₀ q₀ : ℕ} → words.Bytes t → HoldsNode t r p₀ q₀ → set_node t r p q ≡ put t (r.start + 1) (start_entry r p q)
  set_node_link g w = ⊎_elim
      (λ e. set_node_one t r p q e)
      (λ e.
      let u : Bytes = put t (r.start + 1) (start_entry r p q) in
      let gu : words.Bytes u = bytes_put t (r.start + 1) (start_entry r p q) g in
      let a : put u (r.start + 2) (span_entry r) ≡ u =
      put_same u (r.start + 2) (span_entry r) gu (get_other t (r.start + 1) (start_entry r p q) (r.start + 2) (λ k. omega arith) ∙ w.second e) in
      let b : put u (r.start + r.size) (span_entry r) ≡ u =
      put_same u (r.start + r.size) (span_entry r) gu (get_other t (r.start + 1) (start_entry r p q) (r.start + r.size) (λ k. e (omega arith)) ∙ w.last e) in
      set_node_more t r p q e ∙ ap (λ (x : Bytes). put x (r.start + r.size) (span_entry r)) a ∙ b)
      (one_or_more r.size)

  -- what stood in the start entry does not matter
  pub set_node_over : (v : Entry) → set_node (put t (r.start + 1) v) r p q ≡ set_node t r p q
  set_node_over v = ⊎_elim
      (λ e. set_node_one (put t (r.start + 1) v) r p q e ∙ put_put t (r.start + 1) v (start_entry r p q) ∙ sym (set_node_one t r p q e))
      (λ e.
      set_node_more (put t (r.start + 1) v) r p q e
      ∙ ap (λ (x : Bytes). put (put x (r.start + 2) (span_entry r)) (r.start + r.size) (span_entry r)) (put_put t (r.start + 1) v (start_entry r p q))
      ∙ sym (set_node_more t r p q e))
      (one_or_more r.size)

  -- another entry may be written before or after
  pub set_node_past : (i : ℕ) (v : Entry) → i ≢ r.start + 1 → (r.size ≢ 1 → (i ≢ r.start + 2) × (i ≢ r.start + r.size))
      → set_node (put t i v) r p q ≡ put (set_node t r p q) i v
  set_node_past i v h k = ⊎_elim
      (λ e.
      set_node_one (put t i v) r p q e
      ∙ put_comm t i v (r.start + 1) (start_entry r p q) h
      ∙ ap (λ (x : Bytes). put x i v) (sym (set_node_one t r p q e)))
      (λ e.
      let t₁ : Bytes = put t (r.start + 1) (start_entry r p q) in
      let t₂ : Bytes = put t₁ (r.start + 2) (span_entry r) in
      set_node_more (put t i v) r p q e
      ∙ ap (λ (x : Bytes). put (put x (r.start + 2) (span_entry r)) (r.start + r.size) (span_entry r)) (put_comm t i v (r.start + 1) (start_entry r p q) h)
      ∙ ap (λ (x : Bytes). put x (r.start + r.size) (span_entry r)) (put_comm t₁ i v (r.start + 2) (span_entry r) (k e).0)
      ∙ put_comm t₂ i v (r.start + r.size) (span_entry r) (k e).1
      ∙ ap (λ (x : Bytes). put x i v) (sym (set_node_more t r p q e)))
      (one_or_more r.size)

-- a block that a run does not have lies before it or after
pub outside : (b : ℕ) (r : Run) → hits b r ≡ 0 → (b < r.start) ⊎ (r.start + r.size ≤ b)
outside b r h = ⊎_elim
    (λ k. ⊎_elim
    (λ m. inr m)
    (λ m. let z : ⊥ = omega (arith, hits_in b r k m) in absurd z)
    (le_or_lt (r.start + r.size) b))
    (λ k. inl k)
    (le_or_lt r.start b)

-- the start entry of a block that the run does not have
pub set_node_beside : (t : Bytes) (r : Run) (p q b : ℕ) (v : Entry) → 1 ≤ r.size → hits b r ≡ 0 → set_node (put t (b + 1) v) r p q ≡ put (set_node t r p q) (b + 1) v
set_node_beside t r p q b v pos h = ⊎_elim
    (λ k. set_node_past t r p q (b + 1) v (λ e. omega arith) (λ m. (λ e. omega arith, λ e. omega arith)))
    (λ k. set_node_past t r p q (b + 1) v (λ e. omega arith) (λ m. (λ e. m (omega arith), λ e. omega arith)))
    (outside b r h)

pub lay_past : (l : List Run) (p : ℕ) (t : Bytes) (b : ℕ) (v : Entry) → empties l ≡ 0 → covers b l ≡ 0 → lay l p (put t (b + 1) v) ≡ put (lay l p t) (b + 1) v
lay_past [] p t b v e c = refl
lay_past (r ∷ l) p t b v e c =
    ap (lay l (suc r.start)) (set_node_beside t r p (first l) b v (omega arith) (omega arith))
    ∙ lay_past l (suc r.start) (set_node t r p (first l)) b v (omega arith) (omega arith)

-- some run of the list starts at block b
pub data Begins (b : ℕ) : List Run → Type 0 where
  here : {r : Run} {l : List Run} → r.start ≡ b → Begins b (r ∷ l)
  there : {r : Run} {l : List Run} → Begins b l → Begins b (r ∷ l)

pub begins_right : {b : ℕ} (l : List Run) {m : List Run} → Begins b m → Begins b (l ++ m)
begins_right [] w = w
begins_right (r ∷ l) w = there (begins_right l w)

pub begins_covers : {b : ℕ} {l : List Run} → Begins b l → empties l ≡ 0 → 1 ≤ covers b l
begins_covers {b} (here {r} {l} e) k = omega (arith, hits_in b r (omega arith) (omega arith))
begins_covers {b} (there {r} {l} w) k = omega (arith, begins_covers w (omega arith))

-- a chain laid: what stood in the start entry of one of its nodes does not matter
pub lay_over : (l : List Run) (p : ℕ) (t : Bytes) (b : ℕ) (v : Entry) → empties l ≡ 0 → ((x : ℕ) → covers x l ≤ 1) → Begins b l → lay l p (put t (b + 1) v) ≡ lay l p t
lay_over [] p t b v e c x3 = elim x3 [ ]
lay_over (r ∷ l) p t b v e c (here q) =
    ap (λ (k : ℕ). lay l (suc r.start) (set_node (put t (k + 1) v) r p (first l))) (sym q)
    ∙ ap (lay l (suc r.start)) (set_node_over t r p (first l) v)
lay_over (r ∷ l) p t b v e c (there w) =
    ap (lay l (suc r.start)) (set_node_beside t r p (first l) b v (omega arith) (omega (arith, c b, begins_covers w (omega arith))))
    ∙ lay_over l (suc r.start) (set_node t r p (first l)) b v (omega arith) (λ x. omega (arith, c x)) w

pub relaid_over : (t : Bytes) (file free : List Run) (b : ℕ) (v : Entry) → empties file ≡ 0 → empties free ≡ 0
    → ((x : ℕ) → covers x file + covers x free ≤ 1) → Begins b file ⊎ Begins b free → relaid (put t (b + 1) v) file free ≡ relaid t file free
relaid_over t file free b v e k c w = ⊎_elim
    (λ i. ap (λ (u : Bytes). set_head (lay free 0 u) (first free)) (lay_over file 0 t b v e (λ x. omega (arith, c x)) i))
    (λ i.
    ap (λ (u : Bytes). set_head (lay free 0 u) (first free)) (lay_past file 0 t b v e (omega (arith, c b, begins_covers i k)))
    ∙ ap (λ (u : Bytes). set_head u (first free)) (lay_over free 0 (lay file 0 t) b v k (λ x. omega (arith, c x)) i))
    w
