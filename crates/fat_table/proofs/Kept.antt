-- What a write of a node keeps: every entry but the node's, and where the table holds the node already every entry but the one with its links.
use mathlib.Core.Path.{◌≡◌, refl, ap, subst, subst⁻¹, ◌∙◌}
use mathlib.Core.List.{List, [], ◌∷◌, ◌++◌}
use mathlib.Core.Bool.{cond}
use mathlib.Core.Logic.{◌≢◌, ◌⊎◌, inl, inr, ⊎_elim}
use Prim.Native.Nat.{ℕ, ◌+◌, ◌*◌, ◌/◌, ◌≤◌, ◌<◌}
use native.Mathlib.Omega.{arith}
use lib.ListN.{get_or}
use borrow.Author.Tests.{ne_eqb}
use Rattle.words.specs.Word.{word}
use Rattle.words.proofs.Laws as words
use Rattle.links.specs.Links.{◌∈◌}
use Rattle.links.proofs.Laws.{by_eq}
use Rattle.fat_node.specs.Entry.{Bytes, Entry, get, put}
use Rattle.fat_node.specs.Node.{Run, start_entry, span_entry, set_node}
use Rattle.fat_node.proofs.Entries.{get_other, bytes_put, put_same}
use Rattle.fat_node.proofs.Nodes.{one_or_more, le_or_lt, set_node_one, set_node_more, set_node_other, bytes_set_node}
use Rattle.fat_table.specs.Layout.{hits, covers, empties}
use Rattle.fat_table.specs.Steps.{first}
use Rattle.fat_table.specs.Holds.{HoldsNode, Laid}
use Rattle.fat_table.specs.Changes.{Kept, entries_of, first_entry, last_entry, link_entries}
use Rattle.fat_table.proofs.Writes.{relink, set_node_as, keep_laid}

-- entries and bytes ------------------------------------------------------------------------------------

-- every entry keeps its words but entry 0 and these
abbrev pub KeptEntries : List ℕ → Bytes → Bytes → Type 0
KeptEntries l t t' = (e : ℕ) → 0 < e → (e ∈ l → ⊥) → get t' e ≡ get t e

-- words that are the same have the same bytes
word_bytes : (s s' : Bytes) (a : ℕ) → words.Bytes s → words.Bytes s' → word s' a ≡ word s a
    → (get_or s' a 0 ≡ get_or s a 0) × (get_or s' (a + 1) 0 ≡ get_or s (a + 1) 0) × (get_or s' (a + 2) 0 ≡ get_or s (a + 2) 0) × (get_or s' (a + 3) 0 ≡ get_or s (a + 3) 0)
unfolding word
word_bytes s s' a b b' e =
    let b0 = b.byte a in
    let b1 = b.byte (a + 1) in
    let b2 = b.byte (a + 2) in
    let c0 = b'.byte a in
    let c1 = b'.byte (a + 1) in
    let c2 = b'.byte (a + 2) in
    (omega arith, omega arith, omega arith, omega arith)

at_place : (s s' : Bytes) (i j : ℕ) → i ≡ j → get_or s' j 0 ≡ get_or s j 0 → get_or s' i 0 ≡ get_or s i 0
at_place s s' i j e h = subst⁻¹ (λ (x : ℕ). get_or s' x 0 ≡ get_or s x 0) e h

-- a byte of the four from a on
one_of_four : (s s' : Bytes) (a i : ℕ) → words.Bytes s → words.Bytes s' → word s' a ≡ word s a → a ≤ i → i < a + 4 → get_or s' i 0 ≡ get_or s i 0
one_of_four s s' a i b b' e h k =
    let w = word_bytes s s' a b b' e in
    ⊎_elim
    (λ p. at_place s s' i a (omega (arith, p)) w.0)
    (λ p.
    ⊎_elim
    (λ q. at_place s s' i (a + 1) (omega (arith, p, q)) w.1)
    (λ q.
    ⊎_elim
    (λ r. at_place s s' i (a + 2) (omega (arith, q, r)) w.2)
    (λ r. at_place s s' i (a + 3) (omega (arith, r)) w.3)
    (le_or_lt i (a + 2)))
    (le_or_lt i (a + 1)))
    (le_or_lt i a)

entry_bytes : (s s' : Bytes) (i : ℕ) → words.Bytes s → words.Bytes s' → get s' (i / 8) ≡ get s (i / 8) → get_or s' i 0 ≡ get_or s i 0
unfolding get
entry_bytes s s' i b b' e =
    ⊎_elim
    (λ h. one_of_four s s' (8 * (i / 8)) i b b' (ap (λ (x : Entry). x.u) e) (omega arith) (omega (arith, h)))
    (λ h. one_of_four s s' (8 * (i / 8) + 4) i b b' (ap (λ (x : Entry). x.v) e) (omega (arith, h)) (omega arith))
    (le_or_lt (i + 1) (8 * (i / 8) + 4))

pub kept_bytes : (l : List ℕ) (t t' : Bytes) → words.Bytes t → words.Bytes t' → KeptEntries l t t' → Kept l t t'
kept_bytes l t t' b b' k i h g = entry_bytes t t' i b b' (k (i / 8) (omega arith) g)

-- writes -------------------------------------------------------------------------------------------------

in_start : (e : ℕ) (r : Run) → e ≡ r.start + 1 → e ∈ entries_of r
in_start e r h = by_eq r.size 1 (λ y. e ∈ cond y ((r.start + 1) ∷ []) ((r.start + 1) ∷ (r.start + 2) ∷ (r.start + r.size) ∷ [])) (λ k. inl h) (λ k. inl h)

in_span : (e : ℕ) (r : Run) → r.size ≢ 1 → (e ≡ r.start + 2) ⊎ (e ≡ r.start + r.size) → e ∈ entries_of r
in_span e r k h = rw (ne_eqb r.size 1 k) (inr (⊎_elim (λ q. inl q) (λ q. inr (inl q)) h))

-- a node that is written: its entries
pub set_node_keeps : (t : Bytes) (r : Run) (p q e : ℕ) → (e ∈ entries_of r → ⊥) → get (set_node t r p q) e ≡ get t e
set_node_keeps t r p q e g = set_node_other t r p q e (λ h. g (in_start e r h)) (λ k. (λ h. g (in_span e r k (inl h)), λ h. g (in_span e r k (inr h))))

-- a node that the table holds, written with other links: its first entry
links_keep : (t : Bytes) (r : Run) (o i p q e : ℕ) → words.Bytes t → HoldsNode t r o i → e ≢ r.start + 1 → get (set_node t r p q) e ≡ get t e
links_keep t r o i p q e g w ne =
    let a : Entry = start_entry r p q in
    let y : Entry = span_entry r in
    let b₁ : ℕ = r.start + 1 in
    let b₂ : ℕ = r.start + 2 in
    let b₃ : ℕ = r.start + r.size in
    let t₁ : Bytes = put t b₁ a in
    let g₁ : words.Bytes t₁ = bytes_put t b₁ a g in
    ⊎_elim
    (λ k. ap (λ (x : Bytes). get x e) (set_node_one t r p q k) ∙ get_other t b₁ a e ne)
    (λ k.
    ap (λ (x : Bytes). get x e)
    (set_node_more t r p q k
    ∙ ap (λ (x : Bytes). put x b₃ y) (put_same t₁ b₂ y g₁ (get_other t b₁ a b₂ (λ h. omega (arith, h)) ∙ w.second k))
    ∙ put_same t₁ b₃ y g₁ (get_other t b₁ a b₃ (λ h. k (omega (arith, h))) ∙ w.last k))
    ∙ get_other t b₁ a e ne)
    (one_or_more r.size)

pub relink_keeps : (t : Bytes) (B : List Run) (o p e : ℕ) → words.Bytes t → Laid t B o → (e ∈ first_entry B → ⊥) → get (relink B p t) e ≡ get t e
relink_keeps t [] o p e g w none = refl
relink_keeps t (y ∷ B) o p e g w none = links_keep t y o (first B) p (first B) e g w.0 (λ h. none (inl h))

-- the links on both sides of a place: the node x gets another next, and the chain B behind it another previous
pub both_keep : (t : Bytes) (x : Run) (B : List Run) (i j q o p e : ℕ) → words.Bytes t → 1 ≤ x.size → empties B ≡ 0 → ((z : ℕ) → hits z x + covers z B ≤ 1)
    → HoldsNode t x i j → Laid t B o → (first B ≡ 0 → j ≡ q) → (e ∈ link_entries (x ∷ []) B → ⊥) → get (relink B p (set_node t x i q)) e ≡ get t e
both_keep t x [] i j q o p e g pos es cs w l same none =
    ap (λ (y : Bytes). get y e) (set_node_as t x i q g (subst (λ (k : ℕ). HoldsNode t x i k) (same refl) w))
both_keep t x (y ∷ B) i j q o p e g pos es cs w l same none =
    relink_keeps (set_node t x i q) (y ∷ B) o p e (bytes_set_node t x i q g) (keep_laid t x i q (y ∷ B) o pos es cs l) (λ h. none (inr h))
    ∙ links_keep t x i j i q e g w (λ h. none (inl h))

-- the last node of a chain is the one whose links change
last_of : (A : List Run) (x : Run) → last_entry (A ++ x ∷ []) ≡ (x.start + 1) ∷ []
last_of [] x = refl
last_of (a ∷ []) x = refl
last_of (a ∷ b ∷ A) x = last_of (b ∷ A) x

pub link_last : (A : List Run) (x : Run) (B : List Run) → link_entries (A ++ x ∷ []) B ≡ link_entries (x ∷ []) B
link_last [] x B = refl
link_last (a ∷ A) x [] = refl
link_last (a ∷ A) x (y ∷ B) = ap (λ (l : List ℕ). l ++ ((y.start + 1) ∷ [])) (last_of (a ∷ A) x)
