-- The chains of a sound table, as the audit marks them: the first blocks of the file chains are exactly the files.
use mathlib.Core.Path.{◌≡◌, refl, sym, ap, subst, subst⁻¹, ◌∙◌}
use mathlib.Core.List.Memᴰ
use mathlib.Core.List.{List, [], ◌∷◌}
use mathlib.Core.Bool.{Bool, true, false, cond}
use mathlib.Core.Logic.{◌⊎◌, inl, inr, ⊎_elim}
use Prim.Native.Nat.{ℕ, zero, suc, ◌+◌, ◌-◌, ◌≤◌, ◌<◌}
use native.Mathlib.Omega.{arith}
use native.Mathlib.Numerals.{add-one}
use lib.Dec.{eqb}
use lib.ListN.{length}
use borrow.Author.Tests.{eqb-true, eqb-false, eq-eqb}
use Rattle.links.specs.Links.{◌∈◌}
use Rattle.fat_node.specs.Entry.{Bytes, v_at}
use Rattle.fat_node.specs.Node.{Run, NodeAt, prev_at}
use Rattle.fat_table.specs.Sound.{IsNode, File}
use Rattle.fat_table.specs.Chain.{total, head_at, free_at, file_at}
use Rattle.fat_table.specs.Layout.{Layout, layout}
use Rattle.fat_table.specs.Counts.{nodes, starts}
use Rattle.fat_table.proofs.Layouts.{end_after}
use Rattle.fat_table.proofs.Chains.{In}
use Rattle.fat_table.proofs.Sounds.{node_size, node_in, in_node, node_of, in_order}
use Rattle.fat_table.proofs.Counting.{scan_read}
use Rattle.fat_table.proofs.Files.{Whole, seen}
use Rattle.fat_table.proofs.Decided.{file_decided}
use Rattle.fat_walk.proofs.Chains.{file_chain}
use Rattle.tree_table.specs.Chain.{member}
use Rattle.tree_table.proofs.Chain.{member_in, in_member}
use Rattle.audit_inner.specs.Volume.{firsts_of, firsts, chain_of}
use Rattle.audit_inner.specs.Inner.Marks.{Chains}

-- a node that starts a file chain, by its links
starts_links : (t : Bytes) (b : ℕ) → starts t b ≡ 1 → (prev_at t b ≡ 0) × (head_at t ≡ b + 1 → ⊥)
unfolding starts
starts_links t b e = go (eqb (prev_at t b) 0) refl (eqb (head_at t) (b + 1)) refl e
  where
    go : (x : Bool) → eqb (prev_at t b) 0 ≡ x → (y : Bool) → eqb (head_at t) (b + 1) ≡ y → cond x (cond {A = ℕ} y 0 1) 0 ≡ 1
        → (prev_at t b ≡ 0) × (head_at t ≡ b + 1 → ⊥)
    go true p true q k = let z : ⊥ = omega (arith, k) in absurd z
    go true p false q k = (eqb-true (prev_at t b) 0 p, eqb-false (head_at t) (b + 1) q)
    go false p y q k = let z : ⊥ = omega (arith, k) in absurd z

links_starts : (t : Bytes) (b : ℕ) → prev_at t b ≡ 0 → (head_at t ≡ b + 1 → ⊥) → starts t b ≡ 1
unfolding starts
links_starts t b e h = go (eqb (prev_at t b) 0) refl (eqb (head_at t) (b + 1)) refl
  where
    go : (x : Bool) → eqb (prev_at t b) 0 ≡ x → (y : Bool) → eqb (head_at t) (b + 1) ≡ y → cond x (cond {A = ℕ} y 0 1) 0 ≡ 1
    go true p true q = absurd (h (eqb-true (head_at t) (b + 1) q))
    go true p false q = refl
    go false p y q = absurd (eqb-false (prev_at t b) 0 p e)

-- the list of first blocks, read and made
firsts_in : (t : Bytes) (l : List Run) (b : ℕ) → b ∈ firsts_of t l → (r : Run) × In r l × (r.start ≡ b) × (starts t b ≡ 1)
firsts_in t [] b m = absurd m
firsts_in t (r ∷ l) b m = go (λ k. firsts_in t l b k) (eqb (starts t r.start) 1) refl m
  where
    later : (b ∈ firsts_of t l → (s : Run) × In s l × (s.start ≡ b) × (starts t b ≡ 1)) → b ∈ firsts_of t l → (s : Run) × In s (r ∷ l) × (s.start ≡ b) × (starts t b ≡ 1)
    later f k = let w = f k in (w.0, Memᴰ.tail w.1, w.2, w.3)

    go : (b ∈ firsts_of t l → (s : Run) × In s l × (s.start ≡ b) × (starts t b ≡ 1)) → (x : Bool) → eqb (starts t r.start) 1 ≡ x
        → b ∈ cond x (r.start ∷ firsts_of t l) (firsts_of t l) → (s : Run) × In s (r ∷ l) × (s.start ≡ b) × (starts t b ≡ 1)
    go f true e (inl q) = (r, Memᴰ.head refl, sym q, ap (starts t) q ∙ eqb-true (starts t r.start) 1 e)
    go f true e (inr k) = later f k
    go f false e k = later f k

in_firsts : (t : Bytes) (l : List Run) (b : ℕ) (r : Run) → In r l → r.start ≡ b → starts t b ≡ 1 → b ∈ firsts_of t l
in_firsts t [] b r m e s = absurd (Memᴰ.not-nil m)
in_firsts t (a ∷ l) b r m e s = go (λ i. in_firsts t l b r i e s) (eqb (starts t a.start) 1) refl (Memᴰ.cases_cons m)
  where
    go : (In r l → b ∈ firsts_of t l) → (x : Bool) → eqb (starts t a.start) 1 ≡ x → (r ≡ a) ⊎ In r l → b ∈ cond x (a.start ∷ firsts_of t l) (firsts_of t l)
    go f true q (inl i) = inl (sym e ∙ ap (λ (x : Run). x.start) i)
    go f true q (inr i) = inr (f i)
    go f false q (inl i) =
        let k : b ≡ a.start = sym e ∙ ap (λ (x : Run). x.start) i in
        absurd (eqb-false (starts t a.start) 1 q (ap (starts t) (sym k) ∙ s))
    go f false q (inr i) = f i

module _ (n : ℕ) (t : Bytes) (w : Whole n t) where
  -- the nodes of the table, in their order
  ordered : (ns : List Run) × (nodes n t ≡ ns) × ((c : ℕ) → IsNode t n c → (r : Run) × In r ns × (r.start ≡ c)) × ((r : Run) → In r ns → IsNode t n r.start)
  ordered =
      let s = seen n t w in
      let L : Layout = layout (free_at n t) s.files in
      let o = in_order n w.small t L s.holds in
      let nd = node_of n w.small t L s.holds o.0 o.1 o.2 in (
        o.0,
        scan_read n t o.0 n 0 (omega (arith, end_after 0 o.0 n o.2)) o.2 (λ r m. node_size t n r.start r.size (nd r m)),
        (λ c i. node_in n t o.0 o.2 nd i),
        λ r m. in_node n t o.0 o.2 nd m,
      )

  pub first_file : (b : ℕ) → b ∈ firsts n t → File t n b
  first_file b m =
      let o = ordered in
      let q = firsts_in t o.0 b (subst (λ (l : List Run). b ∈ firsts_of t l) o.1 m) in
      let l = starts_links t b q.3 in
      (subst (IsNode t n) q.2 (o.3 q.0 q.1), l.0, l.1)

  pub file_first : (b : ℕ) → File t n b → b ∈ firsts n t
  file_first b f =
      let o = ordered in
      let q = o.2 b f.0 in
      subst⁻¹ (λ (l : List Run). b ∈ firsts_of t l) o.1 (in_firsts t o.0 b q.0 q.1 q.2 (links_starts t b f.1 f.2))

  pub chain_file : (b : ℕ) → File t n b → chain_of n t b ≡ total (file_at n t b)
  unfolding chain_of
  chain_file b f = ap (λ (x : Bool). cond x (total (file_at n t b)) 0) (in_member b (firsts n t) (file_first b f))

  pub chain_none : (b : ℕ) → (File t n b → ⊥) → chain_of n t b ≡ 0
  unfolding chain_of
  chain_none b h = go (member b (firsts n t)) refl
    where
      go : (x : Bool) → member b (firsts n t) ≡ x → cond x (total (file_at n t b)) 0 ≡ 0
      go true e = absurd (h (first_file b (member_in b (firsts n t) e)))
      go false e = refl

  pub chain_sum : (b : ℕ) → File t n b → total (file_at n t b) ≤ n
  chain_sum b f = (file_chain n t w b f).chain.sum

  pub chains_of : Chains n (chain_of n t)
  chains_of = record {
    out = λ b h. chain_none b (λ f. omega (arith, f.0.1, h));
    few = λ b. ⊎_elim (λ f. omega (arith, chain_file b f, chain_sum b f, w.small)) (λ h. omega (arith, chain_none b h)) (file_decided n t b w);
  }
