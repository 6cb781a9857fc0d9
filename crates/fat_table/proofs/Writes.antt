-- A step writes few nodes: what it is to lay chains anew, as the few writes of nodes and of the head that change a byte.
use mathlib.Core.Path.{◌≡◌, refl, sym, ap, subst, ◌∙◌}
use mathlib.Core.List.{List, [], ◌∷◌, ◌++◌, append_assoc}
use Prim.Native.Nat.{ℕ, zero, suc, ◌+◌, ◌-◌, ◌≤◌, ◌<◌}
use native.Mathlib.Omega.{arith}
use Rattle.words.proofs.Laws as words
use Rattle.fat_node.specs.Entry.{Bytes}
use Rattle.fat_node.specs.Node.{Run, run, set_node, set_head}
use Rattle.fat_node.proofs.Nodes.{bytes_set_node, set_node_same}
use Rattle.fat_table.specs.Chain.{total, chain_at, file_at}
use Rattle.fat_table.specs.Layout.{Layout, layout, taken, left, joined, hits, covers, empties, Tiled}
use Rattle.fat_table.specs.Steps.{first, lay, relaid, created, grown, deleted}
use Rattle.fat_table.specs.Holds.{HoldsNode, Laid, Holds}
use Rattle.fat_table.proofs.Layouts.{covers_append, empties_append, hits_split, hits_most, taken_whole, taken_part, left_whole, left_part}
use Rattle.fat_table.proofs.Laying.{apart, keep_holds}
use Rattle.fat_table.proofs.Stepped.{free_read, file_read}

pub set_node_as : (t : Bytes) (r : Run) (p q : ℕ) → words.Bytes t → HoldsNode t r p q → set_node t r p q ≡ t
set_node_as t r p q g w = set_node_same t r p q g w.start (λ e. (w.second e, w.last e))

pub lay_as : (t : Bytes) (l : List Run) (p : ℕ) → words.Bytes t → Laid t l p → lay l p t ≡ t
lay_as t [] p g w = refl
lay_as t (r ∷ l) p g w = ap (lay l (suc r.start)) (set_node_as t r p (first l) g w.0) ∙ lay_as t l (suc r.start) g w.1

-- the index of the last node of a chain, or p
abbrev pub last_of : List Run → ℕ → ℕ
last_of [] p = p
last_of (r ∷ l) p = last_of l (suc r.start)

-- the first node's previous is set
abbrev pub relink : List Run → ℕ → Bytes → Bytes
relink [] p t = t
relink (y ∷ l) p t = set_node t y p (first l)

pub first_same : (A : List Run) (x y : Run) (B C : List Run) → x.start ≡ y.start → first (A ++ x ∷ B) ≡ first (A ++ y ∷ C)
first_same [] x y B C e = ap suc e
first_same (a ∷ A) x y B C e = refl

-- the nodes before the first one that changes stay
pub lay_after : (t : Bytes) (A : List Run) (x y : Run) (B C : List Run) (p : ℕ) → words.Bytes t → x.start ≡ y.start → Laid t (A ++ x ∷ B) p
    → lay (A ++ y ∷ C) p t ≡ lay (y ∷ C) (last_of A p) t
lay_after t [] x y B C p g e w = refl
lay_after t (a ∷ A) x y B C p g e w =
    ap (λ (q : ℕ). lay (A ++ y ∷ C) (suc a.start) (set_node t a p q)) (sym (first_same A x y B C e))
    ∙ ap (lay (A ++ y ∷ C) (suc a.start)) (set_node_as t a p (first (A ++ x ∷ B)) g w.0)
    ∙ lay_after t A x y B C (suc a.start) g e w.1

pub laid_suffix : (t : Bytes) (A l : List Run) (p : ℕ) → Laid t (A ++ l) p → Laid t l (last_of A p)
laid_suffix t [] l p w = w
laid_suffix t (a ∷ A) l p w = laid_suffix t A l (suc a.start) w.1

-- a node written keeps the chains that it shares no block with
pub keep_laid : (t : Bytes) (r : Run) (p q : ℕ) (l : List Run) (o : ℕ) → 1 ≤ r.size → empties l ≡ 0 → ((x : ℕ) → hits x r + covers x l ≤ 1)
    → Laid t l o → Laid (set_node t r p q) l o
keep_laid t r p q [] o h e c w = tt
keep_laid t r p q (s ∷ l) o h e c w = (
  keep_holds t r p q h s o (first l) (omega arith) (apart r s h (omega arith) (λ x. omega (arith, c x))) w.0,
  keep_laid t r p q l (suc s.start) h (omega arith) (λ x. omega (arith, c x)) w.1,
)

-- a chain of which only the first node's previous changes
pub lay_relink : (t : Bytes) (B : List Run) (o p : ℕ) → words.Bytes t → empties B ≡ 0 → ((x : ℕ) → covers x B ≤ 1) → Laid t B o → lay B p t ≡ relink B p t
lay_relink t [] o p g e c w = refl
lay_relink t (y ∷ B) o p g e c w =
    lay_as (set_node t y p (first B)) B (suc y.start) (bytes_set_node t y p (first B) g)
    (keep_laid t y p (first B) B (suc y.start) (omega arith) (omega arith) c w.1)

-- a cut within the run x
pub cut_within : (A : List Run) (x : Run) (B : List Run) (m c : ℕ) → empties A ≡ 0 → 1 ≤ m → m < x.size → c ≡ total A + m
    → (taken (A ++ x ∷ B) c ≡ A ++ run x.start m ∷ []) × (left (A ++ x ∷ B) c ≡ run (x.start + m) (x.size - m) ∷ B)
cut_within [] x B m zero e h k q = let z : ⊥ = omega arith in absurd z
cut_within [] x B m (suc c) e h k q =
    let mc : suc c ≡ m = omega arith in (
      taken_part x B c (omega arith) ∙ ap {B = List Run} (λ (j : ℕ). run x.start j ∷ []) mc,
      left_part x B c (omega arith) ∙ ap {B = List Run} (λ (j : ℕ). run (x.start + j) (x.size - j) ∷ B) mc,
    )
cut_within (a ∷ A) x B m zero e h k q = let z : ⊥ = omega arith in absurd z
cut_within (a ∷ A) x B m (suc c) e h k q =
    let w = cut_within A x B m (suc c - a.size) (omega arith) h k (omega arith) in (
      taken_whole a (A ++ x ∷ B) c (omega arith) ∙ ap {B = List Run} (λ l. a ∷ l) w.0,
      left_whole a (A ++ x ∷ B) c (omega arith) ∙ w.1,
    )

-- a cut between two runs
pub cut_between : (A B : List Run) (c : ℕ) → empties A ≡ 0 → c ≡ total A → (taken (A ++ B) c ≡ A) × (left (A ++ B) c ≡ B)
cut_between [] [] c e q = (refl, refl)
cut_between [] (b ∷ B) zero e q = (refl, refl)
cut_between [] (b ∷ B) (suc c) e q = let z : ⊥ = omega arith in absurd z
cut_between (a ∷ A) B zero e q = let z : ⊥ = omega arith in absurd z
cut_between (a ∷ A) B (suc c) e q =
    let w = cut_between A B (suc c - a.size) (omega arith) (omega arith) in
    (taken_whole a (A ++ B) c (omega arith) ∙ ap {B = List Run} (λ l. a ∷ l) w.0, left_whole a (A ++ B) c (omega arith) ∙ w.1)

module _ (n : ℕ) (small : n ≤ 1000000) (t : Bytes) (g : words.Bytes t) where
  -- create, where x is the last node taken, whole: it has no next, the node after has no previous, the head is set
  pub created_whole : (A : List Run) (x : Run) (B : List Run) (files : List (List Run)) → Holds n t (layout ((A ++ x ∷ []) ++ B) files)
      → created n t (total (A ++ x ∷ [])) ≡ set_head (relink B 0 (set_node t x (last_of A 0) 0)) (first B)
  unfolding created
  created_whole A x B files s =
      let F : List Run = (A ++ x ∷ []) ++ B in
      let T : Tiled n (layout F files) = s.tiled in
      let es : empties A + ((1 - x.size) + empties B) ≡ 0 =
      omega (arith, T.positive, empties_append F (joined files), empties_append (A ++ x ∷ []) B, empties_append A (x ∷ [])) in
      let cs : (z : ℕ) → covers z A + (hits z x + covers z B) ≤ 1 =
      λ z. omega (arith, T.once z, hits_most z (run 0 n), covers_append z F (joined files), covers_append z (A ++ x ∷ []) B, covers_append z A (x ∷ [])) in
      let w = cut_between (A ++ x ∷ []) B (total (A ++ x ∷ [])) (omega (arith, empties_append A (x ∷ []))) refl in
      let l : Laid t (A ++ x ∷ B) 0 = subst (λ (y : List Run). Laid t y 0) (append_assoc A (x ∷ []) B) s.free in
      let t₁ : Bytes = set_node t x (last_of A 0) 0 in
      let b₁ : Laid t₁ B (suc x.start) = keep_laid t x (last_of A 0) 0 B (suc x.start) (omega arith) (omega arith) (λ z. omega (arith, cs z)) (laid_suffix t A (x ∷ B) 0 l).1 in
      ap (λ (f : List Run). relaid t (taken f (total (A ++ x ∷ []))) (left f (total (A ++ x ∷ [])))) (free_read n small t (layout F files) s)
      ∙ ap (λ (f : List Run). relaid t f (left F (total (A ++ x ∷ [])))) w.0
      ∙ ap (λ (f : List Run). relaid t (A ++ x ∷ []) f) w.1
      ∙ ap (λ (y : Bytes). set_head (lay B 0 y) (first B)) (lay_after t A x x B [] 0 g refl l)
      ∙ ap (λ (y : Bytes). set_head y (first B)) (lay_relink t₁ B (suc x.start) 0 (bytes_set_node t x (last_of A 0) 0 g) (omega arith) (λ z. omega (arith, cs z)) b₁)

  -- delete: the file's last node gets the free front for its next, that one gets it for its previous, the head is set
  pub deleted_writes : (A : List Run) (x : Run) (free : List Run) (files : List (List Run)) (b : ℕ) → Holds n t (layout free ((A ++ x ∷ []) ∷ files)) → first (A ++ x ∷ []) ≡ suc b
      → deleted n t b ≡ set_head (relink free (suc x.start) (set_node t x (last_of A 0) (first free))) (suc b)
  unfolding deleted
  deleted_writes A x free files b s e =
      let T : Tiled n (layout free ((A ++ x ∷ []) ∷ files)) = s.tiled in
      let es : empties free + (1 - x.size) ≡ 0 =
      omega (arith, T.positive, empties_append free ((A ++ x ∷ []) ++ joined files), empties_append (A ++ x ∷ []) (joined files), empties_append A (x ∷ [])) in
      let cs : (z : ℕ) → covers z free + hits z x ≤ 1 =
      λ z. omega (arith, T.once z, hits_most z (run 0 n), covers_append z free ((A ++ x ∷ []) ++ joined files), covers_append z (A ++ x ∷ []) (joined files), covers_append z A (x ∷ [])) in
      let t₁ : Bytes = set_node t x (last_of A 0) (first free) in
      let f₁ : Laid t₁ free 0 = keep_laid t x (last_of A 0) (first free) free 0 (omega arith) (omega arith) (λ z. omega (arith, cs z)) s.free in
      ap (λ (f : List Run). relaid t [] (file_at n t b ++ f)) (free_read n small t (layout free ((A ++ x ∷ []) ∷ files)) s)
      ∙ ap (λ (f : List Run). relaid t [] (f ++ free)) (ap (chain_at t n) (sym e) ∙ file_read n small t free (A ++ x ∷ []) files s)
      ∙ ap (λ (f : List Run). relaid t [] f) (append_assoc A (x ∷ []) free)
      ∙ ap (λ (y : Bytes). set_head y (first (A ++ x ∷ free))) (lay_after t A x x [] free 0 g refl s.files.0)
      ∙ ap (λ (y : Bytes). set_head y (first (A ++ x ∷ free))) (lay_relink t₁ free 0 (suc x.start) (bytes_set_node t x (last_of A 0) (first free) g) (omega arith) (λ z. omega (arith, cs z)) f₁)
      ∙ ap (set_head (relink free (suc x.start) t₁)) (first_same A x x free [] refl ∙ e)

  -- create, where the run x is split: its two parts are written, the node after gets its previous, the head is set
  pub created_split : (A : List Run) (x : Run) (B : List Run) (files : List (List Run)) (m : ℕ) → Holds n t (layout (A ++ x ∷ B) files) → 1 ≤ m → m < x.size
      → created n t (total A + m) ≡ set_head (relink B (suc (x.start + m))
      (set_node (set_node t (run x.start m) (last_of A 0) 0) (run (x.start + m) (x.size - m)) 0 (first B))) (suc (x.start + m))
  unfolding created
  created_split A x B files m s h k =
      let T : Tiled n (layout (A ++ x ∷ B) files) = s.tiled in
      let es : empties A + (empties B + empties (joined files)) ≡ 0 =
      omega (arith, T.positive, empties_append (A ++ x ∷ B) (joined files), empties_append A (x ∷ B)) in
      let cs : (z : ℕ) → covers z A + (hits z x + covers z B) ≤ 1 =
      λ z. omega (arith, T.once z, hits_most z (run 0 n), covers_append z (A ++ x ∷ B) (joined files), covers_append z A (x ∷ B)) in
      let w = cut_within A x B m (total A + m) (omega arith) h k refl in
      let x₁ : Run = run x.start m in
      let x₂ : Run = run (x.start + m) (x.size - m) in
      let sp : (z : ℕ) → hits z x₁ + hits z x₂ ≡ hits z x = λ z. hits_split z x m (omega arith) in
      let t₁ : Bytes = set_node t x₁ (last_of A 0) 0 in
      let t₂ : Bytes = set_node t₁ x₂ 0 (first B) in
      let b : Laid t B (suc x.start) = (laid_suffix t A (x ∷ B) 0 s.free).1 in
      let b₁ : Laid t₁ B (suc x.start) = keep_laid t x₁ (last_of A 0) 0 B (suc x.start) h (omega arith) (λ z. omega (arith, cs z, sp z)) b in
      let b₂ : Laid t₂ B (suc x.start) = keep_laid t₁ x₂ 0 (first B) B (suc x.start) (omega arith) (omega arith) (λ z. omega (arith, cs z, sp z)) b₁ in
      let g₂ : words.Bytes t₂ = bytes_set_node t₁ x₂ 0 (first B) (bytes_set_node t x₁ (last_of A 0) 0 g) in
      ap (λ (f : List Run). relaid t (taken f (total A + m)) (left f (total A + m))) (free_read n small t (layout (A ++ x ∷ B) files) s)
      ∙ ap (λ (f : List Run). relaid t f (left (A ++ x ∷ B) (total A + m))) w.0
      ∙ ap (λ (f : List Run). relaid t (A ++ x₁ ∷ []) f) w.1
      ∙ ap (λ (y : Bytes). set_head (lay (x₂ ∷ B) 0 y) (suc (x.start + m))) (lay_after t A x x₁ B [] 0 g refl s.free)
      ∙ ap (λ (y : Bytes). set_head y (suc (x.start + m))) (lay_relink t₂ B (suc x.start) (suc (x.start + m)) g₂ (omega arith) (λ z. omega (arith, cs z)) b₂)

-- a chain of which the first node's previous changes, and what stands from x on -----------------------

-- the index that names a chain's first node, or i
abbrev pub first_or : List Run → ℕ → ℕ
first_or [] i = i
first_or (a ∷ A) i = suc a.start

abbrev pub relink_in : List Run → ℕ → ℕ → Bytes → Bytes
relink_in [] i p t = t
relink_in (a ∷ A) i p t = set_node t a p (first_or A i)

pub first_or_lem : (A : List Run) (y : Run) (C : List Run) (i : ℕ) → suc y.start ≡ i → first (A ++ y ∷ C) ≡ first_or A i
first_or_lem [] y C i e = e
first_or_lem (a ∷ A) y C i e = refl

pub lay_turn : (t : Bytes) (A : List Run) (x y : Run) (B C : List Run) (o p : ℕ) → words.Bytes t → x.start ≡ y.start
    → empties (A ++ x ∷ B) ≡ 0 → ((z : ℕ) → covers z (A ++ x ∷ B) ≤ 1) → Laid t (A ++ x ∷ B) o
    → lay (A ++ y ∷ C) p t ≡ lay (y ∷ C) (last_of A p) (relink_in A (suc x.start) p t)
lay_turn t [] x y B C o p g e es cs w = refl
lay_turn t (a ∷ A) x y B C o p g e es cs w =
    let q : ℕ = first_or A (suc x.start) in
    ap (λ (i : ℕ). lay (A ++ y ∷ C) (suc a.start) (set_node t a p i)) (first_or_lem A y C (suc x.start) (ap suc (sym e)))
    ∙ lay_after (set_node t a p q) A x y B C (suc a.start) (bytes_set_node t a p q g) e
    (keep_laid t a p q (A ++ x ∷ B) (suc a.start) (omega arith) (omega arith) cs w.1)

pub bytes_relink_in : (t : Bytes) (A : List Run) (i p : ℕ) → words.Bytes t → words.Bytes (relink_in A i p t)
bytes_relink_in t [] i p g = g
bytes_relink_in t (a ∷ A) i p g = bytes_set_node t a p (first_or A i) g

-- it keeps what shares no block with the chain
pub keep_relink_in : (t : Bytes) (A : List Run) (i p : ℕ) (l : List Run) (o : ℕ) → empties A ≡ 0 → empties l ≡ 0 → ((z : ℕ) → covers z A + covers z l ≤ 1) → Laid t l o → Laid (relink_in A i p t) l o
keep_relink_in t [] i p l o e el c w = w
keep_relink_in t (a ∷ A) i p l o e el c w = keep_laid t a p (first_or A i) l o (omega arith) el (λ z. omega (arith, c z)) w

module _ (n : ℕ) (small : n ≤ 1000000) (t : Bytes) (g : words.Bytes t) where
  -- grow, where the run x is split: the file's last node y names the first node taken and the reverse, then as create
  pub grown_split : (F : List Run) (y : Run) (A : List Run) (x : Run) (B : List Run) (files : List (List Run)) (b m : ℕ)
      → Holds n t (layout (A ++ x ∷ B) ((F ++ y ∷ []) ∷ files)) → first (F ++ y ∷ []) ≡ suc b → 1 ≤ m → m < x.size
      → grown n t b (total A + m) ≡ set_head (relink B (suc (x.start + m))
      (set_node (set_node (relink_in A (suc x.start) (suc y.start) (set_node t y (last_of F 0) (first_or A (suc x.start))))
      (run x.start m) (last_of A (suc y.start)) 0) (run (x.start + m) (x.size - m)) 0 (first B))) (suc (x.start + m))
  unfolding grown
  grown_split F y A x B files b m s e h k =
      let free : List Run = A ++ x ∷ B in
      let f : List Run = F ++ y ∷ [] in
      let L : Layout = layout free (f ∷ files) in
      let T : Tiled n L = s.tiled in
      let es : empties A + ((1 - x.size) + empties B) + (1 - y.size) ≡ 0 =
      omega (arith, T.positive, empties_append free (f ++ joined files), empties_append A (x ∷ B), empties_append f (joined files), empties_append F (y ∷ [])) in
      let cs : (z : ℕ) → covers z A + (hits z x + covers z B) + hits z y ≤ 1 =
      λ z. omega (arith, T.once z, hits_most z (run 0 n), covers_append z free (f ++ joined files), covers_append z A (x ∷ B), covers_append z f (joined files), covers_append z F (y ∷ [])) in
      let ef : empties free ≡ 0 = omega (arith, empties_append A (x ∷ B)) in
      let cf : (z : ℕ) → covers z free ≤ 1 = λ z. omega (arith, cs z, covers_append z A (x ∷ B)) in
      let w = cut_within A x B m (total A + m) (omega arith) h k refl in
      let x₁ : Run = run x.start m in
      let x₂ : Run = run (x.start + m) (x.size - m) in
      let sp : (z : ℕ) → hits z x₁ + hits z x₂ ≡ hits z x = λ z. hits_split z x m (omega arith) in
      let i : ℕ = suc x.start in
      let t₁ : Bytes = set_node t y (last_of F 0) (first_or A i) in
      let t₂ : Bytes = relink_in A i (suc y.start) t₁ in
      let t₃ : Bytes = set_node t₂ x₁ (last_of A (suc y.start)) 0 in
      let t₄ : Bytes = set_node t₃ x₂ 0 (first B) in
      let g₁ : words.Bytes t₁ = bytes_set_node t y (last_of F 0) (first_or A i) g in
      let g₄ : words.Bytes t₄ = bytes_set_node t₃ x₂ 0 (first B) (bytes_set_node t₂ x₁ (last_of A (suc y.start)) 0 (bytes_relink_in t₁ A i (suc y.start) g₁)) in
      let l₁ : Laid t₁ free 0 = keep_laid t y (last_of F 0) (first_or A i) free 0 (omega arith) ef (λ z. omega (arith, cs z, covers_append z A (x ∷ B))) s.free in
      let b₁ : Laid t₁ B i = (laid_suffix t₁ A (x ∷ B) 0 l₁).1 in
      let b₂ : Laid t₂ B i = keep_relink_in t₁ A i (suc y.start) B i (omega arith) (omega arith) (λ z. omega (arith, cs z)) b₁ in
      let b₃ : Laid t₃ B i = keep_laid t₂ x₁ (last_of A (suc y.start)) 0 B i h (omega arith) (λ z. omega (arith, cs z, sp z)) b₂ in
      let b₄ : Laid t₄ B i = keep_laid t₃ x₂ 0 (first B) B i (omega arith) (omega arith) (λ z. omega (arith, cs z, sp z)) b₃ in
      let laying : lay (f ++ (A ++ x₁ ∷ [])) 0 t ≡ t₃ =
      ap (λ (l : List Run). lay l 0 t) (append_assoc F (y ∷ []) (A ++ x₁ ∷ []))
      ∙ lay_after t F y y [] (A ++ x₁ ∷ []) 0 g refl s.files.0
      ∙ ap (λ (j : ℕ). lay (A ++ x₁ ∷ []) (suc y.start) (set_node t y (last_of F 0) j)) (first_or_lem A x₁ [] i refl)
      ∙ lay_turn t₁ A x x₁ B [] 0 (suc y.start) g₁ refl ef cf l₁ in
      ap (λ (l : List Run). relaid t (file_at n t b ++ taken l (total A + m)) (left l (total A + m))) (free_read n small t L s)
      ∙ ap (λ (l : List Run). relaid t (l ++ taken free (total A + m)) (left free (total A + m))) (ap (chain_at t n) (sym e) ∙ file_read n small t free f files s)
      ∙ ap (λ (l : List Run). relaid t (f ++ l) (left free (total A + m))) w.0
      ∙ ap (λ (l : List Run). relaid t (f ++ (A ++ x₁ ∷ [])) l) w.1
      ∙ ap (λ (z : Bytes). set_head (lay (x₂ ∷ B) 0 z) (suc (x.start + m))) laying
      ∙ ap (λ (z : Bytes). set_head z (suc (x.start + m))) (lay_relink t₄ B i (suc (x.start + m)) g₄ (omega arith) (λ z. omega (arith, cs z)) b₄)
