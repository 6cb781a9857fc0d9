-- What the test answers: the free blocks are the sum along the free chain, and the other chains are as many as the files.
use mathlib.Core.Path.{◌≡◌, refl, sym, ap, subst, subst⁻¹, ◌∙◌}
use mathlib.Core.List.Memᴰ
use mathlib.Core.List.{List, [], ◌∷◌}
use mathlib.Core.Bool.{Bool, true, false, cond}
use mathlib.Core.Logic.{◌⊎◌, inl, inr, ⊎_elim}
use Prim.Native.Nat.{ℕ, zero, suc, ◌+◌, ◌-◌, ◌≤◌, ◌<◌}
use native.Mathlib.Omega.{arith}
use lib.Dec.{eqb}
use lib.ListN.{length}
use borrow.Author.Tests.{eqb-true, eqb-false, lt-ltb, le-ltb}
use Rattle.fat_node.specs.Entry.{Bytes, Entry, v_at}
use Rattle.fat_node.specs.Node.{Run, run, prev_at, next_at, NodeAt}
use Rattle.fat_node.proofs.Nodes.{node_one}
use Rattle.fat_table.specs.Sound.{IsNode, Along, end, node, Counted, none, one, skip, File}
use Rattle.fat_table.specs.Chain.{total, head_at, size_at, free_at}
use Rattle.fat_table.specs.Layout.{Layout, layout, joined, hits, covers, empties}
use Rattle.fat_table.specs.Steps.{first}
use Rattle.fat_table.specs.Holds.{Laid, Holds}
use Rattle.fat_table.specs.Counts.{free_blocks, scan, nodes, starts, starts_of, other_chains}
use Rattle.fat_table.proofs.Layouts.{EndToEnd, hits_in, hits_most, covers_perm, covers_append, empties_append, end_after}
use Rattle.fat_table.proofs.Laying.{inside_of, first_inside}
use Rattle.fat_table.proofs.Chains.{In, mem_perm, pick, mem_hits}
use Rattle.fat_table.proofs.Stepped.{read_next}
use Rattle.fat_table.proofs.Sounds.{node_size, holds_node, node_in, in_node, node_of, in_order}
use Rattle.fat_table.proofs.Laid.{whole_covers}
use Rattle.fat_table.proofs.Files.{Whole, seen}

-- one sum, one count -----------------------------------------------------------------------------------

pub along_one : {t : Bytes} {n i j m k : ℕ} → Along t n i m → Along t n j k → i ≡ j → m ≡ k
along_one end end e = refl
along_one end (node w a) e = let z : ⊥ = omega (arith, e) in absurd z
along_one (node w a) end e = let z : ⊥ = omega (arith, e) in absurd z
along_one {t} {n} (node {b} {s} {m} w a) (node {b = c} {s = s'} {m = m'} w' a') e =
    let q : b ≡ c = omega (arith, e) in
    let z : s ≡ s' = node_one t n c s s' (subst (λ (x : ℕ). NodeAt t n x s) q w) w' in
    omega (arith, z, along_one a a' (ap (next_at t) q))

pub counted_one : {P : ℕ → Type 0} {a b c d : ℕ} → Counted P a c → Counted P b d → a ≡ b → c ≡ d
counted_one none none e = refl
counted_one none (one w p) e = let z : ⊥ = omega (arith, e) in absurd z
counted_one none (skip w p) e = let z : ⊥ = omega (arith, e) in absurd z
counted_one (one w p) none e = let z : ⊥ = omega (arith, e) in absurd z
counted_one (skip w p) none e = let z : ⊥ = omega (arith, e) in absurd z
counted_one (one {n} w p) (one {n = m} w' p') e = omega (arith, counted_one w w' (omega (arith, e)))
counted_one (skip {n} w p) (skip {n = m} w' p') e = counted_one w w' (omega (arith, e))
counted_one {P} (one {n} w p) (skip {n = m} w' p') e = let q : n ≡ m = omega (arith, e) in absurd (p' (subst P q p))
counted_one {P} (skip {n} w p) (one {n = m} w' p') e = let q : m ≡ n = omega (arith, e) in absurd (p (subst P q p'))

-- the sum along a chain that is laid ---------------------------------------------------------------------

laid_along : (n : ℕ) → n ≤ 1000000 → (t : Bytes) (l : List Run) (p : ℕ) → p ≤ n → empties l ≡ 0 → ((x : ℕ) → covers x l ≤ hits x (run 0 n)) → Laid t l p
    → Along t n (first l) (total l)
laid_along n small t [] p hp e c w = end
laid_along n small t (r ∷ l) p hp e c w =
    let cl : (x : ℕ) → covers x l ≤ hits x (run 0 n) = λ x. omega (arith, c x) in
    let f : first l ≤ n = first_inside n l (omega arith) cl in
    let i : r.start + r.size ≤ n = inside_of n r (omega arith) (λ x. omega (arith, c x)) in
    let a : Along t n (first l) (total l) = laid_along n small t l (suc r.start) (omega arith) (omega arith) cl w.1 in
    let o : Along t n (next_at t r.start) (total l) = subst⁻¹ (λ (x : ℕ). Along t n x (total l)) (read_next n small t r p (first l) hp f w.0) a in
    subst (λ (x : ℕ). Along t n x (r.size + total l)) (omega arith) (node (holds_node n small t r p (first l) hp f (omega arith) i w.0) o)

pub free_along : (n : ℕ) (t : Bytes) → Whole n t → Along t n (v_at t 0) (free_blocks n t)
free_along n t w =
    let s = seen n t w in
    let h : Holds n t (layout (free_at n t) s.files) = s.holds in
    subst⁻¹ (λ (x : ℕ). Along t n x (free_blocks n t)) (ap (λ (x : Entry). x.v) h.head)
    (laid_along n w.small t (free_at n t) 0 (omega arith)
    (omega (arith, h.tiled.positive, empties_append (free_at n t) (joined s.files)))
    (λ x. omega (arith, h.tiled.once x, covers_append x (free_at n t) (joined s.files)))
    h.free)

-- the sum along the free chain is the free blocks
pub along_free : (n : ℕ) (t : Bytes) (m : ℕ) → Whole n t → Along t n (v_at t 0) m → m ≡ free_blocks n t
along_free n t m w a = along_one a (free_along n t w) refl

-- the files, counted ---------------------------------------------------------------------------------------

pub scan_read : (n : ℕ) (t : Bytes) (T : List Run) (k b : ℕ) → length T ≤ k → EndToEnd b T n → ((r : Run) → In r T → size_at t r.start ≡ r.size) → scan n t k b ≡ T
scan_read n t [] zero b h e g = refl
scan_read n t [] (suc k) b h e g = rw (le-ltb b n (omega arith))
scan_read n t (r ∷ T) zero b h e g = let z : ⊥ = omega arith in absurd z
scan_read n t (r ∷ T) (suc k) b h e g =
    let a : b + r.size + length T ≤ n = end_after (b + r.size) T n e.2 in
    let q : size_at t b ≡ r.size = ap (size_at t) (sym e.0) ∙ g r (Memᴰ.head refl) in
    rw (lt-ltb b n (omega arith), q, scan_read n t T k (b + r.size) (omega arith) e.2 (λ s m. g s (Memᴰ.tail m)))
    (ap {B = List Run} (λ (y : ℕ). run y r.size ∷ T) (sym e.0))

-- a node starts a file, or not
starts_file : (t : Bytes) (n b : ℕ) → IsNode t n b → (File t n b × (starts t b ≡ 1)) ⊎ ((File t n b → ⊥) × (starts t b ≡ 0))
unfolding starts
starts_file t n b i = go (eqb (prev_at t b) 0) refl (eqb (head_at t) (b + 1)) refl
  where
    go : (x : Bool) → eqb (prev_at t b) 0 ≡ x → (y : Bool) → eqb (head_at t) (b + 1) ≡ y
        → (File t n b × (cond x (cond {A = ℕ} y 0 1) 0 ≡ 1)) ⊎ ((File t n b → ⊥) × (cond x (cond {A = ℕ} y 0 1) 0 ≡ 0))
    go true e true e' = inr (λ f. f.2 (eqb-true (head_at t) (b + 1) e'), refl)
    go true e false e' = inl ((i, eqb-true (prev_at t b) 0 e, eqb-false (head_at t) (b + 1) e'), refl)
    go false e y e' = inr (λ f. eqb-false (prev_at t b) 0 e f.1, refl)

module _ (n : ℕ) (t : Bytes) (ns : List Run) (E : EndToEnd 0 ns n) (nd : (r : Run) → In r ns → NodeAt t n r.start r.size) where
  -- no node starts inside another
  inside_none : (r : Run) → In r ns → (c : ℕ) → r.start < c → c < r.start + r.size → IsNode t n c → ⊥
  inside_none r m c h k i =
      let o = node_in n t ns E nd i in
      let w = pick m in
      ⊎_elim
      (λ q. omega (arith, ap (λ (x : Run). x.start) q, o.2, h))
      (λ j.
      omega (
        arith,
        whole_covers ns n E c,
        hits_most c (run 0 n),
        covers_perm c w.1,
        mem_hits c j,
        hits_in c r (omega (arith, h)) k,
        hits_in c o.0 (omega (arith, o.2)) (omega (arith, o.2, (nd o.0 o.1).some)),
      ))
      (Memᴰ.cases_cons (mem_perm w.1 o.1))

  over : (r : Run) → In r ns → (k d : ℕ) → d < r.size → Counted (File t n) (r.start + 1) k → Counted (File t n) (r.start + 1 + d) k
  over r m k zero h p = subst (λ (x : ℕ). Counted (File t n) x k) (omega arith) p
  over r m k (suc d) h p =
      subst (λ (x : ℕ). Counted (File t n) x k) (omega arith)
      (skip (over r m k d (omega arith) p) (λ f. inside_none r m (r.start + 1 + d) (omega arith) (omega arith) f.0))

  past : (r : Run) → In r ns → (k : ℕ) → Counted (File t n) r.start k → Counted (File t n) (r.start + r.size) (k + starts t r.start)
  past r m k p =
      let s : 0 < r.size = (nd r m).some in
      let v : Counted (File t n) (r.start + 1) (k + starts t r.start) =
      ⊎_elim
      (λ w. subst (Counted (File t n) (r.start + 1)) (omega (arith, w.1)) (one p w.0))
      (λ w. subst (Counted (File t n) (r.start + 1)) (omega (arith, w.1)) (skip p w.0))
      (starts_file t n r.start (in_node n t ns E nd m)) in
      subst (λ (x : ℕ). Counted (File t n) x (k + starts t r.start)) (omega (arith, s)) (over r m (k + starts t r.start) (r.size - 1) (omega (arith, s)) v)

  count_from : (b : ℕ) (T : List Run) (k : ℕ) → EndToEnd b T n → ((r : Run) → In r T → In r ns) → Counted (File t n) b k → Counted (File t n) n (k + starts_of t T)
  count_from b [] k e g p = subst (λ (x : ℕ). Counted (File t n) n x) (omega arith) (subst (λ (x : ℕ). Counted (File t n) x k) e p)
  count_from b (r ∷ T) k e g p =
      let m : In r ns = g r (Memᴰ.head refl) in
      let q : Counted (File t n) (b + r.size) (k + starts t r.start) =
      subst (λ (x : ℕ). Counted (File t n) (x + r.size) (k + starts t r.start)) e.0
      (past r m k (subst⁻¹ (λ (x : ℕ). Counted (File t n) x k) e.0 p)) in
      subst (Counted (File t n) n) (omega arith) (count_from (b + r.size) T (k + starts t r.start) e.2 (λ x i. g x (Memᴰ.tail i)) q)

pub files_counted : (n : ℕ) (t : Bytes) → Whole n t → Counted (File t n) n (other_chains n t)
files_counted n t w =
    let s = seen n t w in
    let L : Layout = layout (free_at n t) s.files in
    let o = in_order n w.small t L s.holds in
    let nd = node_of n w.small t L s.holds o.0 o.1 o.2 in
    let q : nodes n t ≡ o.0 =
    scan_read n t o.0 n 0 (omega (arith, end_after 0 o.0 n o.2)) o.2 (λ r m. node_size t n r.start r.size (nd r m)) in
    subst⁻¹ (λ (l : List Run). Counted (File t n) n (starts_of t l)) q
    (subst (Counted (File t n) n) (omega arith) (count_from n t o.0 o.2 nd 0 o.0 0 o.2 (λ r m. m) none))

-- the files, counted, are the other chains
pub counted_files : (n : ℕ) (t : Bytes) (c : ℕ) → Whole n t → Counted (File t n) n c → c ≡ other_chains n t
counted_files n t c w k = counted_one k (files_counted n t w) refl
