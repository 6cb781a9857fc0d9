-- Writes of nodes that share no block commute, and of two writes of one node the second stays; so it is with chains.
use mathlib.Core.Path.{◌≡◌, refl, sym, ap, subst⁻¹, ◌∙◌}
use mathlib.Core.List.{List, [], ◌∷◌, ◌++◌}
use mathlib.Core.Logic.{⊎_elim}
use Prim.Native.Nat.{ℕ, suc, ◌+◌, ◌≤◌, ◌<◌}
use native.Mathlib.Omega.{arith}
use Rattle.fat_node.specs.Entry.{Bytes, Entry, entry, put}
use Rattle.fat_node.specs.Node.{Run, start_entry, span_entry, set_node, set_head}
use Rattle.fat_node.proofs.Entries.{put_put, put_comm}
use Rattle.fat_node.proofs.Nodes.{one_or_more, le_or_lt, set_node_one, set_node_more}
use Rattle.fat_table.specs.Layout.{hits, covers, empties}
use Rattle.fat_table.specs.Steps.{first, lay}
use Rattle.fat_table.proofs.Laying.{apart}
use Rattle.fat_table.proofs.Writes.{relink}

-- an entry outside a node may be written before it
put_set_node : (t : Bytes) (e : ℕ) (w : Entry) (r : Run) (p q : ℕ) → 1 ≤ r.size → (r.start < e → e ≤ r.start + r.size → ⊥)
    → put (set_node t r p q) e w ≡ set_node (put t e w) r p q
put_set_node t e w r p q pos far =
    let b₁ : ℕ = r.start + 1 in
    let a : Entry = start_entry r p q in
    let s : Entry = span_entry r in
    ⊎_elim
    (λ k.
    ap (λ (x : Bytes). put x e w) (set_node_one t r p q k)
    ∙ put_comm t b₁ a e w (λ h. far (omega (arith, h)) (omega (arith, h)))
    ∙ sym (set_node_one (put t e w) r p q k))
    (λ k.
    ap (λ (x : Bytes). put x e w) (set_node_more t r p q k)
    ∙ put_comm (put (put t b₁ a) (r.start + 2) s) (r.start + r.size) s e w (λ h. far (omega (arith, h)) (omega (arith, h)))
    ∙ ap (λ (x : Bytes). put x (r.start + r.size) s) (put_comm (put t b₁ a) (r.start + 2) s e w (λ h. far (omega (arith, h)) (omega (arith, h, k))))
    ∙ ap (λ (x : Bytes). put (put x (r.start + 2) s) (r.start + r.size) s) (put_comm t b₁ a e w (λ h. far (omega (arith, h)) (omega (arith, h))))
    ∙ sym (set_node_more (put t e w) r p q k))
    (one_or_more r.size)

-- nodes that share no block may be written in either order
pub set_node_comm : (t : Bytes) (r : Run) (p q : ℕ) (s : Run) (p' q' : ℕ) → 1 ≤ r.size → 1 ≤ s.size → ((x : ℕ) → hits x r + hits x s ≤ 1)
    → set_node (set_node t r p q) s p' q' ≡ set_node (set_node t s p' q') r p q
set_node_comm t r p q s p' q' hr hs h =
    let far : (e : ℕ) → s.start < e → e ≤ s.start + s.size → r.start < e → e ≤ r.start + r.size → ⊥ =
    λ e a b c d. ⊎_elim (λ k. omega (arith, k, a, b, c, d)) (λ k. omega (arith, k, a, b, c, d)) (apart r s hr hs h) in
    let f₁ : ℕ = s.start + 1 in
    let f₂ : ℕ = s.start + 2 in
    let f₃ : ℕ = s.start + s.size in
    let z : Entry = start_entry s p' q' in
    let y : Entry = span_entry s in
    ⊎_elim
    (λ k.
    set_node_one (set_node t r p q) s p' q' k
    ∙ put_set_node t f₁ z r p q hr (far f₁ (omega arith) (omega arith))
    ∙ ap (λ (x : Bytes). set_node x r p q) (sym (set_node_one t s p' q' k)))
    (λ k.
    set_node_more (set_node t r p q) s p' q' k
    ∙ ap (λ (x : Bytes). put (put x f₂ y) f₃ y) (put_set_node t f₁ z r p q hr (far f₁ (omega arith) (omega arith)))
    ∙ ap (λ (x : Bytes). put x f₃ y) (put_set_node (put t f₁ z) f₂ y r p q hr (far f₂ (omega arith) (omega (arith, k))))
    ∙ put_set_node (put (put t f₁ z) f₂ y) f₃ y r p q hr (far f₃ (omega arith) (omega arith))
    ∙ ap (λ (x : Bytes). set_node x r p q) (sym (set_node_more t s p' q' k)))
    (one_or_more s.size)

-- the head may be set before or after a node
pub set_head_set_node : (t : Bytes) (i : ℕ) (r : Run) (p q : ℕ) → 1 ≤ r.size → set_head (set_node t r p q) i ≡ set_node (set_head t i) r p q
unfolding set_head
set_head_set_node t i r p q pos = put_set_node t 0 (entry 0 i) r p q pos (λ a b. omega (arith, a))

-- two entries written twice, the span in the second place
twice : (t : Bytes) (e₂ e₃ : ℕ) (y : Entry) → put (put (put (put t e₂ y) e₃ y) e₂ y) e₃ y ≡ put (put t e₂ y) e₃ y
twice t e₂ e₃ y =
    ⊎_elim
    (λ h. ap (λ (x : Bytes). put x e₃ y) (put_comm (put t e₂ y) e₃ y e₂ y (λ q. omega (arith, h, q)) ∙ ap (λ (x : Bytes). put x e₃ y) (put_put t e₂ y y)) ∙ put_put (put t e₂ y) e₃ y y)
    (λ h.
    ⊎_elim
    (λ k. ap (λ (x : Bytes). put x e₃ y) (put_comm (put t e₂ y) e₃ y e₂ y (λ q. omega (arith, k, q)) ∙ ap (λ (x : Bytes). put x e₃ y) (put_put t e₂ y y)) ∙ put_put (put t e₂ y) e₃ y y)
    (λ k.
    let q : e₃ ≡ e₂ = omega (arith, h, k) in
    subst⁻¹ (λ (e : ℕ). put (put (put (put t e₂ y) e y) e₂ y) e y ≡ put (put t e₂ y) e y) q
    (put_put (put (put t e₂ y) e₂ y) e₂ y y ∙ put_put (put t e₂ y) e₂ y y))
    (le_or_lt (suc e₃) e₂))
    (le_or_lt (suc e₂) e₃)

-- of two writes of one node the second stays
pub set_node_set_node : (t : Bytes) (r : Run) (p q p' q' : ℕ) → 1 ≤ r.size → set_node (set_node t r p q) r p' q' ≡ set_node t r p' q'
set_node_set_node t r p q p' q' pos =
    let e₁ : ℕ = r.start + 1 in
    let e₂ : ℕ = r.start + 2 in
    let e₃ : ℕ = r.start + r.size in
    let a : Entry = start_entry r p q in
    let a' : Entry = start_entry r p' q' in
    let y : Entry = span_entry r in
    ⊎_elim
    (λ k.
    set_node_one (set_node t r p q) r p' q' k
    ∙ ap (λ (x : Bytes). put x e₁ a') (set_node_one t r p q k)
    ∙ put_put t e₁ a a'
    ∙ sym (set_node_one t r p' q' k))
    (λ k.
    set_node_more (set_node t r p q) r p' q' k
    ∙ ap (λ (x : Bytes). put (put (put x e₁ a') e₂ y) e₃ y) (set_node_more t r p q k)
    ∙ ap (λ (x : Bytes). put (put x e₂ y) e₃ y)
    (put_comm (put (put t e₁ a) e₂ y) e₃ y e₁ a' (λ h. omega (arith, h, k))
    ∙ ap (λ (x : Bytes). put x e₃ y) (put_comm (put t e₁ a) e₂ y e₁ a' (λ h. omega (arith, h)))
    ∙ ap (λ (x : Bytes). put (put x e₂ y) e₃ y) (put_put t e₁ a a'))
    ∙ twice (put t e₁ a') e₂ e₃ y
    ∙ sym (set_node_more t r p' q' k))
    (one_or_more r.size)

-- a node that shares no block with a chain may be written after it
pub lay_set_node : (l : List Run) (o : ℕ) (t : Bytes) (r : Run) (p q : ℕ) → 1 ≤ r.size → empties l ≡ 0 → ((x : ℕ) → hits x r + covers x l ≤ 1)
    → lay l o (set_node t r p q) ≡ set_node (lay l o t) r p q
lay_set_node [] o t r p q pos e c = refl
lay_set_node (s ∷ l) o t r p q pos e c =
    ap (lay l (suc s.start)) (set_node_comm t r p q s o (first l) pos (omega arith) (λ x. omega (arith, c x)))
    ∙ lay_set_node l (suc s.start) (set_node t s o (first l)) r p q pos (omega arith) (λ x. omega (arith, c x))

-- a chain laid after another index: its first node's previous is set
pub lay_again : (l : List Run) (o p : ℕ) (t : Bytes) → empties l ≡ 0 → ((x : ℕ) → covers x l ≤ 1) → lay l p t ≡ relink l p (lay l o t)
lay_again [] o p t e c = refl
lay_again (r ∷ l) o p t e c =
    ap (lay l (suc r.start)) (sym (set_node_set_node t r o (first l) p (first l) (omega arith)))
    ∙ lay_set_node l (suc r.start) (set_node t r o (first l)) r p (first l) (omega arith) (omega arith) c

pub lay_relinked : (m : List Run) (o : ℕ) (t : Bytes) (l : List Run) (p : ℕ) → empties l ≡ 0 → empties m ≡ 0 → ((x : ℕ) → covers x l + covers x m ≤ 1)
    → lay m o (relink l p t) ≡ relink l p (lay m o t)
lay_relinked m o t [] p el em c = refl
lay_relinked m o t (r ∷ l) p el em c = lay_set_node m o t r p (first l) (omega arith) em (λ x. omega (arith, c x))

pub set_head_relinked : (t : Bytes) (i : ℕ) (l : List Run) (p : ℕ) → empties l ≡ 0 → set_head (relink l p t) i ≡ relink l p (set_head t i)
set_head_relinked t i [] p e = refl
set_head_relinked t i (r ∷ l) p e = set_head_set_node t i r p (first l) (omega arith)

-- a chain laid over itself, now with more behind it
pub lay_over : (l m : List Run) (p : ℕ) (t : Bytes) → empties l ≡ 0 → ((x : ℕ) → covers x l ≤ 1) → lay (l ++ m) p (lay l p t) ≡ lay (l ++ m) p t
lay_over [] m p t e c = refl
lay_over (r ∷ l) m p t e c =
    ap (lay (l ++ m) (suc r.start))
    (sym (lay_set_node l (suc r.start) (set_node t r p (first l)) r p (first (l ++ m)) (omega arith) (omega arith) c)
    ∙ ap (lay l (suc r.start)) (set_node_set_node t r p (first l) p (first (l ++ m)) (omega arith)))
    ∙ lay_over l m (suc r.start) (set_node t r p (first (l ++ m))) (omega arith) (λ x. omega (arith, c x))
