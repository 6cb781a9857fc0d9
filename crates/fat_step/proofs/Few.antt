-- Each step on a sound table, as the few writes that the code makes.
use mathlib.Core.Path.{◌≡◌, refl, sym, ap, subst, ◌∙◌}
use mathlib.Core.List.{List, [], ◌∷◌, ◌++◌, append-nil, append_assoc}
use mathlib.Core.Logic.{◌⊎◌, inl, inr, ⊎_elim}
use Prim.Native.Nat.{ℕ, zero, suc, ◌+◌, ◌-◌, ◌≤◌}
use native.Mathlib.Omega.{arith}
use native.Mathlib.Numerals.{add-one}
use borrow.Author.Tests.{eq-eqb, ne_eqb, le-leb, lt-leb}
use Rattle.words.proofs.Laws as words
use Rattle.fat_node.specs.Entry.{Bytes, entry}
use Rattle.fat_node.specs.Node.{Run, run, set_head}
use Rattle.fat_node.proofs.Entries.{put_same}
use Rattle.fat_node.proofs.Nodes.{le_or_lt}
use Rattle.fat_table.specs.Sound.{File}
use Rattle.fat_table.specs.Chain.{total, size_at, head_at, free_at, file_at}
use Rattle.fat_table.specs.Layout.{taken, left, hits, covers, empties}
use Rattle.fat_table.specs.Steps.{first, lay, relaid, created, grown, shrunk, resized, deleted}
use Rattle.fat_table.proofs.Layouts.{hits_most, covers_cut, empties_append, empties_cut, taken_whole, taken_part, left_whole, left_part}
use Rattle.fat_table.proofs.Writes.{cut_within, cut_between, lay_as, first_same}
use Rattle.fat_table.proofs.Files.{Whole, seen_file, bytes_lay}
use Rattle.fat_walk.specs.Inner.Chains.{Chain}
use Rattle.fat_step.specs.Inner.Writes.{join_at, cut_at}
use Rattle.fat_step.proofs.Over.{Begins, here, there, begins_right}
use Rattle.fat_table.proofs.Unchanged.{total_append}
use Rattle.fat_walk.proofs.Nodes.{mid_size}
use Rattle.fat_step.proofs.Joins.{end_relaid, split_relaid, join_lay, join_chain, join_over}
use Rattle.fat_walk.proofs.Chains.{free_chain, file_chain, file_beside, file_fits}

-- a cut of two chains in a row, in the first or in the second
pub cut_first : (F G : List Run) (c : ℕ) → c ≤ total F → (taken (F ++ G) c ≡ taken F c) × (left (F ++ G) c ≡ left F c ++ G)
cut_first [] [] c h = (refl, refl)
cut_first [] (r ∷ G) zero h = (refl, refl)
cut_first [] (r ∷ G) (suc c) h = let z : ⊥ = omega arith in absurd z
cut_first (r ∷ F) G zero h = (refl, refl)
cut_first (r ∷ F) G (suc c) h = ⊎_elim
    (λ k.
    let w = cut_first F G (suc c - r.size) (omega arith) in (
      taken_whole r (F ++ G) c k ∙ ap {B = List Run} (λ l. r ∷ l) w.0 ∙ sym (taken_whole r F c k),
      left_whole r (F ++ G) c k ∙ w.1 ∙ ap (λ (l : List Run). l ++ G) (sym (left_whole r F c k)),
    ))
    (λ k. (taken_part r (F ++ G) c k ∙ sym (taken_part r F c k), left_part r (F ++ G) c k ∙ ap (λ (l : List Run). l ++ G) (sym (left_part r F c k))))
    (le_or_lt r.size (suc c))

pub cut_second : (F G : List Run) (c d : ℕ) → c ≡ total F + d → empties F ≡ 0 → (taken (F ++ G) c ≡ F ++ taken G d) × (left (F ++ G) c ≡ left G d)
cut_second [] G c d h e = (ap (taken G) (h ∙ omega arith), ap (left G) (h ∙ omega arith))
cut_second (r ∷ F) G zero d h e = let z : ⊥ = omega arith in absurd z
cut_second (r ∷ F) G (suc c) d h e =
    let w = cut_second F G (suc c - r.size) d (omega arith) (omega arith) in
    (taken_whole r (F ++ G) c (omega arith) ∙ ap {B = List Run} (λ l. r ∷ l) w.0, left_whole r (F ++ G) c (omega arith) ∙ w.1)

begins_whole : (r : Run) (l w f : List Run) {b : ℕ} → (Begins b l → Begins b w ⊎ Begins b f) → Begins b (r ∷ l) → Begins b (r ∷ w) ⊎ Begins b f
begins_whole r l w f g (here e) = inl (here e)
begins_whole r l w f g (there v) = ⊎_elim (λ i. inl (there i)) (λ i. inr i) (g v)

begins_part : (r x y : Run) (l : List Run) {b : ℕ} → r.start ≡ x.start → Begins b (r ∷ l) → Begins b (x ∷ []) ⊎ Begins b (y ∷ l)
begins_part r x y l q (here e) = inl (here (sym q ∙ e))
begins_part r x y l q (there v) = inr (there v)

-- after a cut every node still begins where it did
pub begins_cut : (l : List Run) (c : ℕ) {b : ℕ} → Begins b l → Begins b (taken l c) ⊎ Begins b (left l c)
begins_cut [] c {b = b} w = elim w [ ]
begins_cut (r ∷ l) zero w = inr w
begins_cut (r ∷ l) (suc c) {b} w = ⊎_elim
    (λ k. rw (taken_whole r l c k, left_whole r l c k) (begins_whole r l (taken l (suc c - r.size)) (left l (suc c - r.size)) (λ v. begins_cut l (suc c - r.size) v) w))
    (λ k. rw (taken_part r l c k, left_part r l c k) (begins_part r (run r.start (suc c)) (run (r.start + suc c) (r.size - suc c)) l refl w))
    (le_or_lt r.size (suc c))

-- cut, as what is taken and what is left
pub cut_relaid : (n : ℕ) (t : Bytes) → words.Bytes t → (P : List Run) (x : Run) (B : List Run) → Chain n t (P ++ x ∷ B) → (m c : ℕ) → 1 ≤ m → m ≤ x.size → c ≡ total P + m
    → cut_at t x.start m ≡ relaid t (taken (P ++ x ∷ B) c) (left (P ++ x ∷ B) c)
unfolding cut_at
cut_relaid n t g P x B k m c h l e =
    let s : size_at t x.start ≡ x.size = mid_size n t P x B k in
    let ep : empties P + empties (x ∷ B) ≡ 0 = omega (arith, k.positive, empties_append P (x ∷ B)) in
    ⊎_elim
    (λ i.
    let w = cut_between (P ++ x ∷ []) B c (omega (arith, empties_append P (x ∷ []))) (omega (arith, total_append P (x ∷ []))) in
    let q : P ++ x ∷ B ≡ (P ++ x ∷ []) ++ B = sym (append_assoc P (x ∷ []) B) in
    rw (eq-eqb m (size_at t x.start) (omega arith))
    (end_relaid n t g P x B k
    ∙ ap (λ (f : List Run). relaid t f B) (sym w.0)
    ∙ ap (λ (f : List Run). relaid t (taken ((P ++ x ∷ []) ++ B) c) f) (sym w.1)
    ∙ ap (λ (f : List Run). relaid t (taken f c) (left f c)) (sym q)))
    (λ i.
    let w = cut_within P x B m c (omega arith) h i e in
    rw (ne_eqb m (size_at t x.start) (λ z. omega arith))
    (split_relaid n t g P x B k m h i
    ∙ ap (λ (f : List Run). relaid t f (run (x.start + m) (x.size - m) ∷ B)) (sym w.0)
    ∙ ap (λ (f : List Run). relaid t (taken (P ++ x ∷ B) c) f) (sym w.1)))
    (le_or_lt x.size m)

first_begins : (l : List Run) (b : ℕ) → first l ≡ suc b → Begins b l
first_begins [] b e = let z : ⊥ = omega (arith, e) in absurd z
first_begins (r ∷ l) b e = let q : r.start ≡ b = omega (arith, e) in here q

module _ (n : ℕ) (t : Bytes) (w : Whole n t) where
  -- create: the free chain is cut
  pub created_few : (A : List Run) (x : Run) (B : List Run) (m c : ℕ) → free_at n t ≡ A ++ x ∷ B → 1 ≤ m → m ≤ x.size → c ≡ total A + m → cut_at t x.start m ≡ created n t c
  unfolding created
  created_few A x B m c e h k q =
      cut_relaid n t w.bytes A x B (subst (Chain n t) e (free_chain n t w).chain) m c h k q
      ∙ ap (λ (f : List Run). relaid t (taken f c) (left f c)) (sym e)

  module _ (b : ℕ) (i : File t n b) where
    -- to the same count nothing changes
    pub resized_same : resized n t b (total (file_at n t b)) ≡ t
    unfolding resized shrunk set_head
    resized_same =
        let s = seen_file n t b w i in
        let f : List Run = file_at n t b in
        let c : Chain n t f = (file_chain n t w b i).chain in
        let d : Chain n t (free_at n t) = (free_chain n t w).chain in
        let k = cut_between f [] (total f) c.positive refl in
        let k₀ : taken f (total f) ≡ f = subst (λ (l : List Run). taken l (total f) ≡ f) (append-nil f) k.0 in
        let k₁ : left f (total f) ≡ [] = subst (λ (l : List Run). left l (total f) ≡ []) (append-nil f) k.1 in
        rw (le-leb (total f) (total f) (omega arith), k₀, k₁)
        (ap (λ (u : Bytes). set_head (lay (free_at n t) 0 u) (first (free_at n t))) (lay_as t f 0 w.bytes c.laid)
        ∙ ap (λ (u : Bytes). set_head u (first (free_at n t))) (lay_as t (free_at n t) 0 w.bytes d.laid)
        ∙ put_same t 0 (entry 0 (first (free_at n t))) w.bytes s.holds.head)

    module _ (F : List Run) (y : Run) (e : file_at n t b ≡ F ++ y ∷ []) where
      joined_from : Chain n t (F ++ y ∷ [])
      joined_from = subst (Chain n t) e (file_chain n t w b i).chain

      joined_beside : (z : ℕ) → covers z (F ++ y ∷ []) + covers z (free_at n t) ≤ hits z (run 0 n)
      joined_beside = subst (λ (l : List Run). (z : ℕ) → covers z l + covers z (free_at n t) ≤ hits z (run 0 n)) e (file_beside n t w b i)

      joined_fits : total (F ++ y ∷ []) + total (free_at n t) ≤ n
      joined_fits = subst (λ (l : List Run). total l + total (free_at n t) ≤ n) e (file_fits n t w b i)

      join_at_lem : join_at t y.start (head_at t) ≡ join_at t y.start (first (free_at n t))
      join_at_lem = ap (join_at t y.start) (sym (free_chain n t w).at)

      pub both_is : file_at n t b ++ free_at n t ≡ F ++ y ∷ free_at n t
      both_is = ap (λ (l : List Run). l ++ free_at n t) e ∙ append_assoc F (y ∷ []) (free_at n t)

      -- delete: the file goes before the free chain
      pub deleted_few : set_head (join_at t y.start (head_at t)) (b + 1) ≡ deleted n t b
      unfolding deleted
      deleted_few =
          ap (λ (u : Bytes). set_head u (b + 1))
          (join_at_lem ∙ join_lay n t w.bytes F y (free_at n t) joined_from (free_chain n t w).chain joined_beside joined_fits)
          ∙ ap (set_head (lay (F ++ y ∷ free_at n t) 0 t))
          (add-one b ∙ sym (file_chain n t w b i).at ∙ ap first e ∙ sym (first_same F y y (free_at n t) [] refl))
          ∙ ap (λ (l : List Run). set_head (lay l 0 t) (first l)) (sym both_is)

      pub both_chain : Chain n (join_at t y.start (head_at t)) (F ++ y ∷ free_at n t)
      both_chain = rw join_at_lem (join_chain n t w.bytes F y (free_at n t) joined_from (free_chain n t w).chain joined_beside joined_fits)

      pub both_bytes : words.Bytes (join_at t y.start (head_at t))
      both_bytes = rw (join_at_lem, join_lay n t w.bytes F y (free_at n t) joined_from (free_chain n t w).chain joined_beside joined_fits) (bytes_lay (F ++ y ∷ free_at n t) 0 t w.bytes)

      resized_relaid : (c : ℕ) → resized n t b c ≡ relaid t (taken (F ++ y ∷ free_at n t) c) (left (F ++ y ∷ free_at n t) c)
      unfolding resized shrunk grown
      resized_relaid c = ⊎_elim
          (λ h.
          let k = cut_first (file_at n t b) (free_at n t) c h in
          rw (le-leb c (total (file_at n t b)) h)
          (ap (λ (f : List Run). relaid t f (left (file_at n t b) c ++ free_at n t)) (sym k.0)
          ∙ ap (λ (f : List Run). relaid t (taken (file_at n t b ++ free_at n t) c) f) (sym k.1)
          ∙ ap (λ (l : List Run). relaid t (taken l c) (left l c)) both_is))
          (λ h.
          let d : ℕ = c - total (file_at n t b) in
          let k = cut_second (file_at n t b) (free_at n t) c d (omega arith) (file_chain n t w b i).chain.positive in
          rw (lt-leb c (total (file_at n t b)) h)
          (ap (λ (f : List Run). relaid t f (left (free_at n t) d)) (sym k.0)
          ∙ ap (λ (f : List Run). relaid t (taken (file_at n t b ++ free_at n t) c) f) (sym k.1)
          ∙ ap (λ (l : List Run). relaid t (taken l c) (left l c)) both_is))
          (le_or_lt c (total (file_at n t b)))

      -- resize: the file goes before the free chain, and the whole is cut
      pub resized_few : (P : List Run) (x : Run) (B : List Run) (m c : ℕ) → F ++ y ∷ free_at n t ≡ P ++ x ∷ B → 1 ≤ m → m ≤ x.size → c ≡ total P + m
          → cut_at (join_at t y.start (head_at t)) x.start m ≡ resized n t b c
      resized_few P x B m c q h k s =
          let C : List Run = F ++ y ∷ free_at n t in
          let u : Bytes = join_at t y.start (head_at t) in
          let es : empties (taken C c) + empties (left C c) ≡ 0 = empties_cut C c ∙ both_chain.positive in
          cut_relaid n u both_bytes P x B (subst (Chain n u) q both_chain) m c h k s
          ∙ ap (λ (l : List Run). relaid u (taken l c) (left l c)) (sym q)
          ∙ ap (λ (v : Bytes). relaid v (taken C c) (left C c)) join_at_lem
          ∙ join_over n t w.bytes F y (free_at n t) joined_from (free_chain n t w).chain joined_beside joined_fits (taken C c) (left C c) (omega arith) (omega arith)
          (λ z. omega (arith, covers_cut z C c, both_chain.inside z, hits_most z (run 0 n)))
          (begins_cut C c (begins_right F (here refl)))
          (λ v o. begins_cut C c (begins_right F (there (first_begins (free_at n t) v o))))
          ∙ sym (resized_relaid c)
