-- Chains joined and cut by a few writes.
use mathlib.Core.Path.{◌≡◌, refl, sym, ap, ◌∙◌}
use mathlib.Core.List.{List, [], ◌∷◌, ◌++◌}
use mathlib.Core.Logic.{◌⊎◌}
use Prim.Native.Nat.{ℕ, suc, ◌+◌, ◌-◌, ◌≤◌, ◌<◌}
use native.Mathlib.Omega.{arith}
use native.Mathlib.Numerals.{add-one}
use Rattle.words.proofs.Laws as words
use Rattle.fat_node.specs.Entry.{Bytes}
use Rattle.fat_node.specs.Node.{Run, run, start_entry, set_node, set_head}
use Rattle.fat_node.proofs.Nodes.{bytes_set_node}
use Rattle.fat_table.specs.Chain.{total}
use Rattle.fat_table.specs.Layout.{hits, covers, empties}
use Rattle.fat_table.specs.Steps.{first, lay, relaid}
use Rattle.fat_table.specs.Holds.{HoldsNode, Laid}
use Rattle.fat_table.proofs.Layouts.{hits_in, hits_most, hits_split, covers_append, empties_append}
use Rattle.fat_table.proofs.Laying.{length_lay, first_inside, laid_lay}
use Rattle.fat_table.proofs.Stepped.{read_next, read_size}
use Rattle.fat_table.proofs.Unchanged.{total_append}
use Rattle.fat_table.proofs.Writes.{last_of, relink, lay_after, lay_relink, keep_laid}
use Rattle.fat_walk.specs.Inner.Chains.{Chain}
use Rattle.fat_step.specs.Inner.Writes.{with_prev, join_at, end_at, split_at}
use Rattle.fat_step.proofs.Over.{set_node_link, set_node_beside, Begins, relaid_over}
use Rattle.fat_walk.proofs.Nodes.{mid_empties, mid_covers, mid_pos, mid_within, mid_laid, mid_prev, mid_next, mid_size}

-- the first node of a chain gets another previous, as it is read
pub with_prev_lem : (n : ℕ) → n ≤ 1000000 → (t : Bytes) (B : List Run) (o p : ℕ) → o ≤ n → empties B ≡ 0 → ((z : ℕ) → covers z B ≤ hits z (run 0 n)) → Laid t B o
    → with_prev t (first B) p ≡ relink B p t
unfolding with_prev
with_prev_lem n small t [] o p ho e c w = refl
with_prev_lem n small t (y ∷ B) o p ho e c w =
    let f : first B ≤ n = first_inside n B (omega arith) (λ z. omega (arith, c z)) in
    rw (read_size n small t y o (first B) ho f w.0 (omega arith), read_next n small t y o (first B) ho f w.0)

-- it may be done before or after a node beside is written
pub relink_past : (t : Bytes) (B : List Run) (o p : ℕ) (r : Run) (a b : ℕ) → words.Bytes t → 1 ≤ r.size → empties B ≡ 0 → ((z : ℕ) → hits z r + covers z B ≤ 1)
    → Laid t B o → relink B p (set_node t r a b) ≡ set_node (relink B p t) r a b
relink_past t [] o p r a b g pos e c w = refl
relink_past t (y ∷ B) o p r a b g pos e c w =
    let k : HoldsNode (set_node t r a b) y o (first B) = (keep_laid t r a b (y ∷ B) o pos e c w).0 in
    set_node_link (set_node t r a b) y p (first B) (bytes_set_node t r a b g) k
    ∙ sym (set_node_beside t r a b y.start (start_entry y p (first B)) pos (omega (arith, c y.start, hits_in y.start y (omega arith) (omega arith))))
    ∙ ap (λ (u : Bytes). set_node u r a b) (sym (set_node_link t y p (first B) g w.0))

-- cut ------------------------------------------------------------------------------------------------

module _ (n : ℕ) (t : Bytes) (g : words.Bytes t) (P : List Run) (x : Run) (B : List Run) (c : Chain n t (P ++ x ∷ B)) where
  most : (z : ℕ) → covers z P + (hits z x + covers z B) ≤ 1
  most z = omega (arith, mid_covers n t P x B c z, hits_most z (run 0 n))

  pub end_relaid : end_at t x.start ≡ relaid t (P ++ x ∷ []) B
  unfolding end_at
  end_relaid =
      let es : empties P + ((1 - x.size) + empties B) ≡ 0 = mid_empties n t P x B c in
      let pos : 1 ≤ x.size = mid_pos n t P x B c in
      let w : Laid t B (suc x.start) = (mid_laid n t P x B c).1 in
      let t₁ : Bytes = set_node t x (last_of P 0) 0 in
      let b₁ : Laid t₁ B (suc x.start) = keep_laid t x (last_of P 0) 0 B (suc x.start) pos (omega arith) (λ z. omega (arith, most z)) w in
      let i : set_node (with_prev t (first B) 0) x (last_of P 0) 0 ≡ lay B 0 t₁ =
      ap (λ (u : Bytes). set_node u x (last_of P 0) 0)
      (with_prev_lem n c.few t B (suc x.start) 0 (omega (arith, mid_within n t P x B c)) (omega arith) (λ z. omega (arith, mid_covers n t P x B c z)) w)
      ∙ sym (relink_past t B (suc x.start) 0 x (last_of P 0) 0 g pos (omega arith) (λ z. omega (arith, most z)) w)
      ∙ sym (lay_relink t₁ B (suc x.start) 0 (bytes_set_node t x (last_of P 0) 0 g) (omega arith) (λ z. omega (arith, most z)) b₁) in
      rw (mid_next n t P x B c, mid_size n t P x B c, mid_prev n t P x B c)
      (ap (λ (u : Bytes). set_head u (first B)) (i ∙ ap (lay B 0) (sym (lay_after t P x x B [] 0 g refl c.laid))))

  pub split_relaid : (m : ℕ) → 1 ≤ m → m < x.size → split_at t x.start m ≡ relaid t (P ++ run x.start m ∷ []) (run (x.start + m) (x.size - m) ∷ B)
  unfolding split_at
  split_relaid m h k =
      let es : empties P + ((1 - x.size) + empties B) ≡ 0 = mid_empties n t P x B c in
      let w : Laid t B (suc x.start) = (mid_laid n t P x B c).1 in
      let x₁ : Run = run x.start m in
      let x₂ : Run = run (x.start + m) (x.size - m) in
      let j : ℕ = suc (x.start + m) in
      let sp : (z : ℕ) → hits z x₁ + hits z x₂ ≡ hits z x = λ z. hits_split z x m (omega arith) in
      let t₁ : Bytes = set_node t x₁ (last_of P 0) 0 in
      let t₂ : Bytes = set_node t₁ x₂ 0 (first B) in
      let g₁ : words.Bytes t₁ = bytes_set_node t x₁ (last_of P 0) 0 g in
      let b₁ : Laid t₁ B (suc x.start) = keep_laid t x₁ (last_of P 0) 0 B (suc x.start) h (omega arith) (λ z. omega (arith, most z, sp z)) w in
      let b₂ : Laid t₂ B (suc x.start) = keep_laid t₁ x₂ 0 (first B) B (suc x.start) (omega arith) (omega arith) (λ z. omega (arith, most z, sp z)) b₁ in
      let i : set_node (set_node (with_prev t (first B) j) x₁ (last_of P 0) 0) x₂ 0 (first B) ≡ lay B j t₂ =
      ap (λ (u : Bytes). set_node (set_node u x₁ (last_of P 0) 0) x₂ 0 (first B))
      (with_prev_lem n c.few t B (suc x.start) j (omega (arith, mid_within n t P x B c)) (omega arith) (λ z. omega (arith, mid_covers n t P x B c z)) w)
      ∙ ap (λ (u : Bytes). set_node u x₂ 0 (first B)) (sym (relink_past t B (suc x.start) j x₁ (last_of P 0) 0 g h (omega arith) (λ z. omega (arith, most z, sp z)) w))
      ∙ sym (relink_past t₁ B (suc x.start) j x₂ 0 (first B) g₁ (omega arith) (omega arith) (λ z. omega (arith, most z, sp z)) b₁)
      ∙ sym (lay_relink t₂ B (suc x.start) j (bytes_set_node t₁ x₂ 0 (first B) g₁) (omega arith) (λ z. omega (arith, most z)) b₂) in
      rw (add-one (x.start + m), mid_next n t P x B c, mid_size n t P x B c, mid_prev n t P x B c)
      (ap (λ (u : Bytes). set_head u j) (i ∙ ap (λ (u : Bytes). lay B j (set_node u x₂ 0 (first B))) (sym (lay_after t P x x₁ B [] 0 g refl c.laid))))

-- join -----------------------------------------------------------------------------------------------

relink_over : (t : Bytes) (G : List Run) (o p : ℕ) → words.Bytes t → Laid t G o → (file free : List Run) → empties file ≡ 0 → empties free ≡ 0
    → ((z : ℕ) → covers z file + covers z free ≤ 1) → ((b : ℕ) → first G ≡ suc b → Begins b file ⊎ Begins b free)
    → relaid (relink G p t) file free ≡ relaid t file free
relink_over t [] o p g w file free e k c i = refl
relink_over t (y ∷ G) o p g w file free e k c i =
    ap (λ (v : Bytes). relaid v file free) (set_node_link t y p (first G) g w.0)
    ∙ relaid_over t file free y.start (start_entry y p (first G)) e k c (i y.start refl)

module _ (n : ℕ) (t : Bytes) (g : words.Bytes t) (F : List Run) (y : Run) (G : List Run) (c : Chain n t (F ++ y ∷ [])) (d : Chain n t G)
    (beside : (z : ℕ) → covers z (F ++ y ∷ []) + covers z G ≤ hits z (run 0 n)) (fits : total (F ++ y ∷ []) + total G ≤ n) where
  join_most : (z : ℕ) → hits z y + covers z G ≤ 1
  join_most z = omega (arith, beside z, covers_append z F (y ∷ []), hits_most z (run 0 n))

  join_writes : join_at t y.start (first G) ≡ set_node (relink G (suc y.start) t) y (last_of F 0) (first G)
  unfolding join_at
  join_writes =
      rw (mid_size n t F y [] c, mid_prev n t F y [] c, add-one y.start)
      (ap (λ (u : Bytes). set_node u y (last_of F 0) (first G)) (with_prev_lem n c.few t G 0 (suc y.start) (omega arith) d.positive d.inside d.laid))

  pub join_lay : join_at t y.start (first G) ≡ lay (F ++ y ∷ G) 0 t
  join_lay =
      let pos : 1 ≤ y.size = mid_pos n t F y [] c in
      let t₁ : Bytes = set_node t y (last_of F 0) (first G) in
      join_writes
      ∙ sym (relink_past t G 0 (suc y.start) y (last_of F 0) (first G) g pos d.positive join_most d.laid)
      ∙ sym (lay_relink t₁ G 0 (suc y.start) (bytes_set_node t y (last_of F 0) (first G) g) d.positive (λ z. omega (arith, join_most z))
      (keep_laid t y (last_of F 0) (first G) G 0 pos d.positive join_most d.laid))
      ∙ sym (lay_after t F y y [] G 0 g refl c.laid)

  join_empties : empties (F ++ y ∷ G) ≡ 0
  join_empties = omega (arith, c.positive, d.positive, empties_append F (y ∷ []), empties_append F (y ∷ G))

  pub join_inside : (z : ℕ) → covers z (F ++ y ∷ G) ≤ hits z (run 0 n)
  join_inside z = omega (arith, beside z, covers_append z F (y ∷ []), covers_append z F (y ∷ G))

  pub join_chain : Chain n (join_at t y.start (first G)) (F ++ y ∷ G)
  join_chain = rw join_lay (record {
    few = c.few;
    room = length_lay (F ++ y ∷ G) 0 t ∙ c.room;
    laid = laid_lay n c.few (F ++ y ∷ G) 0 t c.room (omega arith) join_empties join_inside;
    positive = join_empties;
    inside = join_inside;
    sum = omega (arith, fits, total_append F (y ∷ []), total_append F (y ∷ G));
  })

  -- to lay chains that begin with the joined nodes over it is to lay them over the table as it was
  pub join_over : (file free : List Run) → empties file ≡ 0 → empties free ≡ 0 → ((z : ℕ) → covers z file + covers z free ≤ 1)
      → Begins y.start file ⊎ Begins y.start free → ((b : ℕ) → first G ≡ suc b → Begins b file ⊎ Begins b free)
      → relaid (join_at t y.start (first G)) file free ≡ relaid t file free
  join_over file free e k o wy wg =
      let pos : 1 ≤ y.size = mid_pos n t F y [] c in
      let hy : HoldsNode t y (last_of F 0) 0 = (mid_laid n t F y [] c).0 in
      let t₁ : Bytes = set_node t y (last_of F 0) (first G) in
      ap (λ (v : Bytes). relaid v file free)
      (join_writes ∙ sym (relink_past t G 0 (suc y.start) y (last_of F 0) (first G) g pos d.positive join_most d.laid))
      ∙ relink_over t₁ G 0 (suc y.start) (bytes_set_node t y (last_of F 0) (first G) g)
      (keep_laid t y (last_of F 0) (first G) G 0 pos d.positive join_most d.laid) file free e k o wg
      ∙ ap (λ (v : Bytes). relaid v file free) (set_node_link t y (last_of F 0) (first G) g hy)
      ∙ relaid_over t file free y.start (start_entry y (last_of F 0) (first G)) e k o wy
