-- Block x is set in the map of first blocks exactly where it is a file's first.
use mathlib.Core.Path.{◌≡◌, refl, sym, ap, subst, subst⁻¹, ◌∙◌}
use mathlib.Core.List.Memᴰ
use mathlib.Core.List.{List, [], ◌∷◌}
use mathlib.Core.Bool.{Bool, true, false, cond}
use mathlib.Core.Logic.{◌⊎◌, inl, inr, ⊎_elim}
use Prim.Native.Nat.{ℕ, zero, suc, ◌+◌, ◌≤◌, ◌<◌}
use native.Mathlib.Omega.{arith}
use lib.Dec.{eqb}
use borrow.Author.Tests.{eqb-true, eqb-false}
use Rattle.fat_node.specs.Entry.{Bytes}
use Rattle.fat_node.specs.Node.{Run, prev_at}
use Rattle.fat_node.proofs.Nodes.{le_or_lt}
use Rattle.fat_table.specs.Sound.{IsNode, File}
use Rattle.fat_table.specs.Chain.{head_at, free_at}
use Rattle.fat_table.specs.Layout.{Layout, layout}
use Rattle.fat_table.specs.Counts.{nodes, starts}
use Rattle.fat_table.proofs.Layouts.{end_after}
use Rattle.fat_table.proofs.Chains.{In}
use Rattle.fat_table.proofs.Sounds.{node_size, node_in, in_node, node_of, in_order}
use Rattle.fat_table.proofs.Counting.{scan_read}
use Rattle.fat_table.proofs.Files.{Whole, seen}
use Rattle.fat_table.proofs.Decided.{file_decided}
use Rattle.fat_first.specs.Firsts.{first_in, first_at}

-- by the links of a node -------------------------------------------------------------------------------

starts_links : (t : Bytes) (b : ℕ) → 1 ≤ starts t b → (prev_at t b ≡ 0) × (head_at t ≡ b + 1 → ⊥)
unfolding starts
starts_links t b e = go (eqb (prev_at t b) 0) refl (eqb (head_at t) (b + 1)) refl e
  where
    go : (x : Bool) → eqb (prev_at t b) 0 ≡ x → (y : Bool) → eqb (head_at t) (b + 1) ≡ y → 1 ≤ cond x (cond {A = ℕ} y 0 1) 0
        → (prev_at t b ≡ 0) × (head_at t ≡ b + 1 → ⊥)
    go true p true q k = let z : ⊥ = omega (arith, k) in absurd z
    go true p false q k = (eqb-true (prev_at t b) 0 p, eqb-false (head_at t) (b + 1) q)
    go false p y q k = let z : ⊥ = omega (arith, k) in absurd z

links_starts : (t : Bytes) (b : ℕ) → prev_at t b ≡ 0 → (head_at t ≡ b + 1 → ⊥) → starts t b ≡ 1
unfolding starts
links_starts t b e h = go (eqb (prev_at t b) 0) refl (eqb (head_at t) (b + 1)) refl
  where
    go : (x : Bool) → eqb (prev_at t b) 0 ≡ x → (y : Bool) → eqb (head_at t) (b + 1) ≡ y → cond x (cond {A = ℕ} y 0 1) 0 ≡ 1
    go true p true q = absurd (h (eqb-true (head_at t) (b + 1) q))
    go true p false q = refl
    go false p y q = absurd (eqb-false (prev_at t b) 0 p e)

-- in the list of nodes ---------------------------------------------------------------------------------

-- a node of the list is at block x, and starts a chain
first_some : (l : List Run) (t : Bytes) (x : ℕ) → 1 ≤ first_in l t x → (r : Run) × In r l × (r.start ≡ x) × (1 ≤ starts t x)
first_some [] t x h = let z : ⊥ = omega (arith, h) in absurd z
first_some (a ∷ l) t x h = go (λ k. first_some l t x k) (eqb a.start x) refl h
  where
    go : (1 ≤ first_in l t x → (r : Run) × In r l × (r.start ≡ x) × (1 ≤ starts t x)) → (y : Bool) → eqb a.start x ≡ y
        → 1 ≤ cond y (starts t x) (first_in l t x) → (r : Run) × In r (a ∷ l) × (r.start ≡ x) × (1 ≤ starts t x)
    go f true e k = (a, Memᴰ.head refl, eqb-true a.start x e, k)
    go f false e k = let w = f k in (w.0, Memᴰ.tail w.1, w.2, w.3)

-- where a node of the list is at block x, it is decided by that node's links
first_at_lem : (l : List Run) (t : Bytes) (x : ℕ) (r : Run) → In r l → r.start ≡ x → first_in l t x ≡ starts t x
first_at_lem [] t x r m e = absurd (Memᴰ.not-nil m)
first_at_lem (a ∷ l) t x r m e = go (λ i. first_at_lem l t x r i e) (eqb a.start x) refl (Memᴰ.cases_cons m)
  where
    go : (In r l → first_in l t x ≡ starts t x) → (y : Bool) → eqb a.start x ≡ y → (r ≡ a) ⊎ In r l → cond y (starts t x) (first_in l t x) ≡ starts t x
    go f true q i = refl
    go f false q (inl i) = absurd (eqb-false a.start x q (ap (λ (z : Run). z.start) (sym i) ∙ e))
    go f false q (inr i) = f i

-- of a sound table -------------------------------------------------------------------------------------

module _ (n : ℕ) (t : Bytes) (w : Whole n t) where
  -- the nodes of the table, in their order
  ordered : (ns : List Run) × (nodes n t ≡ ns) × ((c : ℕ) → IsNode t n c → (r : Run) × In r ns × (r.start ≡ c)) × ((r : Run) → In r ns → IsNode t n r.start)
  ordered =
      let s = seen n t w in
      let L : Layout = layout (free_at n t) s.files in
      let o = in_order n w.small t L s.holds in
      let nd = node_of n w.small t L s.holds o.0 o.1 o.2 in (
        o.0,
        scan_read n t o.0 n 0 (omega (arith, end_after 0 o.0 n o.2)) o.2 (λ r m. node_size t n r.start r.size (nd r m)),
        (λ c i. node_in n t o.0 o.2 nd i),
        λ r m. in_node n t o.0 o.2 nd m,
      )

  pub first_file : (x : ℕ) → 1 ≤ first_at n t x → File t n x
  unfolding first_at
  first_file x h =
      let o = ordered in
      let q = first_some o.0 t x (subst (λ (l : List Run). 1 ≤ first_in l t x) o.1 h) in
      let k = starts_links t x q.3 in
      (subst (IsNode t n) q.2 (o.3 q.0 q.1), k.0, k.1)

  pub file_first : (x : ℕ) → File t n x → first_at n t x ≡ 1
  unfolding first_at
  file_first x f =
      let o = ordered in
      let q = o.2 x f.0 in
      subst⁻¹ (λ (l : List Run). first_in l t x ≡ 1) o.1 (first_at_lem o.0 t x q.0 q.1 q.2 ∙ links_starts t x f.1 f.2)

  pub none_first : (x : ℕ) → (File t n x → ⊥) → first_at n t x ≡ 0
  none_first x h = ⊎_elim (λ k. absurd (h (first_file x k))) (λ k. omega (arith, k)) (le_or_lt 1 (first_at n t x))

  pub first_most : (x : ℕ) → first_at n t x ≤ 1
  first_most x = ⊎_elim (λ f. omega (arith, file_first x f)) (λ h. omega (arith, none_first x h)) (file_decided n t x w)

  pub first_out : (x : ℕ) → n ≤ x → first_at n t x ≡ 0
  first_out x h = none_first x (λ f. omega (arith, f.0.1, h))
