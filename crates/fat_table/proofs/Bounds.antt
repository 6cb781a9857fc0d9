-- The bounds of the walks in specs/ never cut: in a whole table a chain that is read with a bound ends by itself, at a node that names none, and is exactly
-- what is reached by next; and the nodes that are read from block 0 on are all the table's nodes.
use mathlib.Core.Path.{◌≡◌, refl, sym, ap, subst, subst⁻¹, ◌∙◌}
use mathlib.Core.List.Memᴰ
use mathlib.Core.List.{List, [], ◌∷◌, ◌++◌}
use mathlib.Core.Logic.{⊎_elim}
use Prim.Native.Nat.{ℕ, zero, suc, ◌+◌, ◌≤◌}
use native.Mathlib.Omega.{arith}
use lib.ListN.{length}
use Rattle.fat_node.specs.Entry.{Bytes, Entry}
use Rattle.fat_node.specs.Node.{Run, run, next_at, NodeAt}
use Rattle.fat_table.specs.Sound.{IsNode, File, Path, here, on}
use Rattle.fat_table.specs.Chain.{head_at, chain_at, free_at, file_at}
use Rattle.fat_table.specs.Layout.{Layout, layout, joined, runs, hits, covers, empties}
use Rattle.fat_table.specs.Counts.{nodes}
use Rattle.fat_table.specs.Steps.{first}
use Rattle.fat_table.specs.Holds.{Laid, Holds}
use Rattle.fat_table.proofs.Layouts.{covers_append, empties_append, end_after}
use Rattle.fat_table.proofs.Laying.{inside_of, first_inside}
use Rattle.fat_table.proofs.Chains.{In, mem_left, mem_right}
use Rattle.fat_table.proofs.Stepped.{read_next}
use Rattle.fat_table.proofs.Sounds.{node_size, node_in, in_node, node_of, in_order, run_node}
use Rattle.fat_table.proofs.Counting.{scan_read}
use Rattle.fat_table.proofs.Files.{Whole, seen, seen_file}

-- the nodes from the one that an index names, by next, to the one that names none; each stands in the table with its size. No bound here
pub data Uncut (t : Bytes) (n : ℕ) : ℕ → List Run → Type 0 where
  none : Uncut t n 0 []
  node : {b s : ℕ} {l : List Run} → IsNode t n b → NodeAt t n b s → Uncut t n (next_at t b) l → Uncut t n (suc b) (run b s ∷ l)

-- what is reached ----------------------------------------------------------------------------------------

-- any bound that is no shorter reads the same
pub any_bound : {t : Bytes} {n i : ℕ} {l : List Run} → Uncut t n i l → (k : ℕ) → length l ≤ k → chain_at t k i ≡ l
any_bound none zero h = refl
any_bound none (suc k) h = refl
any_bound (node i w c) zero h = let z : ⊥ = omega arith in absurd z
any_bound {t} {n} (node {b} {s} {l} i w c) (suc k) h = rw (node_size t n b s w, any_bound c k (omega arith))

named : {t : Bytes} {n i : ℕ} {l : List Run} {r : Run} → Uncut t n i l → In r l → (b : ℕ) × (i ≡ b + 1)
named none m = absurd (Memᴰ.not-nil m)
named (node {b} i w c) m = (b, omega arith)

first_in : {t : Bytes} {n i : ℕ} {l : List Run} → Uncut t n i l → (b : ℕ) → i ≡ b + 1 → (s : ℕ) × In (run b s) l
first_in none b e = let z : ⊥ = omega arith in absurd z
first_in (node {b = c} {s} i w d) b e = (s, Memᴰ.head (let q : b ≡ c = omega (arith, e) in ap (λ (x : ℕ). run x s) q))

next_in : {t : Bytes} {n i : ℕ} {l : List Run} → Uncut t n i l → (r : Run) → In r l → (b : ℕ) → next_at t r.start ≡ b + 1 → (s : ℕ) × In (run b s) l
next_in none r m b e = absurd (Memᴰ.not-nil m)
next_in {t} (node {b = c} i w d) r m b e =
    ⊎_elim
    (λ q. let o = first_in d b (ap (λ (x : Run). next_at t x.start) (sym q) ∙ e) in (o.0, Memᴰ.tail o.1))
    (λ k. let o = next_in d r k b e in (o.0, Memᴰ.tail o.1))
    (Memᴰ.cases_cons m)

module _ {t : Bytes} {n : ℕ} where
  -- what is reached from the first node is in the list
  reached_in : {i b j : ℕ} {l : List Run} → Uncut t n i l → i ≡ b + 1 → Path (next_at t) b j → (s : ℕ) × In (run j s) l
  reached_in {b = b} c e here = first_in c b e
  reached_in c e (on {m = m} p q) = let o = reached_in c e p in next_in c (run _ o.0) o.1 m q

  -- and the reverse
  in_reached : {i : ℕ} {l : List Run} → Uncut t n i l → (a b : ℕ) → i ≡ b + 1 → Path (next_at t) a b → (r : Run) → In r l → Path (next_at t) a r.start
  in_reached none a b e p r m = absurd (Memᴰ.not-nil m)
  in_reached (node {b = c} i w d) a b e p r m =
      let p' : Path (next_at t) a c = subst (λ (x : ℕ). Path (next_at t) a x) (omega (arith, e)) p in
      ⊎_elim
      (λ q. subst⁻¹ (λ (x : Run). Path (next_at t) a x.start) q p')
      (λ k. let o = named d k in in_reached d a o.0 o.1 (on p' o.1) r k)
      (Memᴰ.cases_cons m)

-- a chain that is laid -------------------------------------------------------------------------------------

laid_uncut : (n : ℕ) → n ≤ 1000000 → (t : Bytes) (l : List Run) (p : ℕ) → p ≤ n → empties l ≡ 0 → ((x : ℕ) → covers x l ≤ hits x (run 0 n)) → Laid t l p
    → ((r : Run) → In r l → IsNode t n r.start × NodeAt t n r.start r.size) → Uncut t n (first l) l
laid_uncut n small t [] p hp e c w nd = none
laid_uncut n small t (r ∷ l) p hp e c w nd =
    let cl : (x : ℕ) → covers x l ≤ hits x (run 0 n) = λ x. omega (arith, c x) in
    let f : first l ≤ n = first_inside n l (omega arith) cl in
    let i : r.start + r.size ≤ n = inside_of n r (omega arith) (λ x. omega (arith, c x)) in
    let a : Uncut t n (first l) l = laid_uncut n small t l (suc r.start) (omega arith) (omega arith) cl w.1 (λ s m. nd s (Memᴰ.tail m)) in
    let h = nd r (Memᴰ.head refl) in
    node h.0 h.1 (subst⁻¹ (λ (x : ℕ). Uncut t n x l) (read_next n small t r p (first l) hp f w.0) a)

-- the theorems ---------------------------------------------------------------------------------------------

module _ (n : ℕ) (t : Bytes) (w : Whole n t) where
  -- the free chain, from the head
  pub free_uncut : Uncut t n (head_at t) (free_at n t)
  free_uncut =
      let s = seen n t w in
      let h : Holds n t (layout (free_at n t) s.files) = s.holds in
      subst⁻¹ (λ (x : ℕ). Uncut t n x (free_at n t)) (ap (λ (x : Entry). x.v) h.head)
      (laid_uncut n w.small t (free_at n t) 0 (omega arith)
      (omega (arith, h.tiled.positive, empties_append (free_at n t) (joined s.files)))
      (λ x. omega (arith, h.tiled.once x, covers_append x (free_at n t) (joined s.files)))
      h.free (λ r m. run_node n w.small t (layout (free_at n t) s.files) h r (mem_left (joined s.files) m)))

  -- the chain of a file, from its first block
  pub file_uncut : (b : ℕ) → File t n b → Uncut t n (suc b) (file_at n t b)
  file_uncut b i =
      let s = seen_file n t b w i in
      let f : List Run = file_at n t b in
      let o : List Run = joined s.others in
      let h : Holds n t (layout (free_at n t) (f ∷ s.others)) = s.holds in
      subst (λ (x : ℕ). Uncut t n x f) s.at
      (laid_uncut n w.small t f 0 (omega arith)
      (omega (arith, h.tiled.positive, empties_append (free_at n t) (f ++ o), empties_append f o))
      (λ x. omega (arith, h.tiled.once x, covers_append x (free_at n t) (f ++ o), covers_append x f o))
      h.files.0 (λ r m. run_node n w.small t (layout (free_at n t) (f ∷ s.others)) h r (mem_right (free_at n t) (mem_left o m))))

  -- it is exactly what is reached from there by next
  pub file_reached : (b : ℕ) → File t n b
      → ((j : ℕ) → Path (next_at t) b j → (s : ℕ) × In (run j s) (file_at n t b)) × ((r : Run) → In r (file_at n t b) → Path (next_at t) b r.start)
  file_reached b i =
      let c = file_uncut b i in
      (λ j p. reached_in c (omega arith) p, λ r m. in_reached c b b (omega arith) here r m)

  -- so is the free chain, where the head names a node
  pub free_reached : (b : ℕ) → head_at t ≡ b + 1
      → ((j : ℕ) → Path (next_at t) b j → (s : ℕ) × In (run j s) (free_at n t)) × ((r : Run) → In r (free_at n t) → Path (next_at t) b r.start)
  free_reached b e = (λ j p. reached_in free_uncut e p, λ r m. in_reached free_uncut b b e here r m)

  -- the nodes from block 0 on: each node of the table is among them, and each of them is one
  pub nodes_uncut : ((b : ℕ) → IsNode t n b → (s : ℕ) × In (run b s) (nodes n t)) × ((r : Run) → In r (nodes n t) → IsNode t n r.start × NodeAt t n r.start r.size)
  nodes_uncut =
      let s = seen n t w in
      let L : Layout = layout (free_at n t) s.files in
      let o = in_order n w.small t L s.holds in
      let nd = node_of n w.small t L s.holds o.0 o.1 o.2 in
      let q : nodes n t ≡ o.0 =
      scan_read n t o.0 n 0 (omega (arith, end_after 0 o.0 n o.2)) o.2 (λ r m. node_size t n r.start r.size (nd r m)) in (
        λ b i.
            let v = node_in n t o.0 o.2 nd i in
            let r : Run = v.0 in
            (r.size, subst⁻¹ (λ (l : List Run). In (run b r.size) l) q (subst (λ (x : ℕ). In (run x r.size) o.0) v.2 v.1)),
        λ r m.
            let k : In r o.0 = subst (λ (l : List Run). In r l) q m in
            (in_node n t o.0 o.2 nd k, nd r k),
      )
