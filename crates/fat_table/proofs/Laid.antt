-- What goes end to end, and laid chains by their links.
use mathlib.Core.Path.{◌≡◌, refl, sym, ap, subst, ◌∙◌}
use mathlib.Core.List.Memᴰ
use mathlib.Core.List.{List, [], ◌∷◌, ◌++◌, Permᴰ, append_assoc}
use mathlib.Core.Logic.{⊎_elim}
use Prim.Native.Nat.{ℕ, suc, ◌+◌, ◌-◌, ◌≤◌}
use native.Mathlib.Omega.{arith}
use lib.ListN.{length, length-append}
use Rattle.fat_node.specs.Entry.{Bytes}
use Rattle.fat_node.specs.Node.{Run, run, prev_at, next_at}
use Rattle.fat_node.proofs.Nodes.{le_or_lt}
use Rattle.fat_table.specs.Chain.{size_at, chain_at}
use Rattle.fat_table.specs.Layout.{Layout, joined, hits, covers, empties, runs}
use Rattle.fat_table.specs.Steps.{first}
use Rattle.fat_table.specs.Holds.{HoldsNode, Laid, AllLaid, Holds}
use Rattle.fat_table.proofs.Layouts.{EndToEnd, hits_split, hits_above, hits_below, covers_append, covers_perm, empties_append, empties_perm, end_after, length_perm}
use Rattle.fat_table.proofs.Laying.{inside_of, first_inside}
use Rattle.fat_table.proofs.Stepped.{read_prev, read_next, read_size, chain_read, few, all_laid_order}
use Rattle.fat_table.proofs.Chains.{In, mem_perm, mem_left, mem_right, chain_of, Linked, AllPath}

-- what goes end to end covers each block once
pub end_sizes : (b : ℕ) (T : List Run) (n : ℕ) → EndToEnd b T n → empties T ≡ 0
end_sizes b [] n e = refl
end_sizes b (r ∷ T) n e = omega (arith, e.1, end_sizes (b + r.size) T n e.2)

pub end_covers : (b : ℕ) (T : List Run) (n : ℕ) → EndToEnd b T n → (x : ℕ) → covers x T ≡ hits x (run b (n - b))
end_covers b [] n e x = ⊎_elim
    (λ h. omega (arith, hits_above x (run b (n - b)) h, hits_below x (run b (n - b)) h))
    (λ h. omega arith)
    (le_or_lt 1 (hits x (run b (n - b))))
end_covers b (r ∷ T) n e x =
    let a : b + r.size + length T ≤ n = end_after (b + r.size) T n e.2 in
    let q : hits x (run b r.size) ≡ hits x r = ap (λ (y : ℕ). hits x (run y r.size)) (sym e.0) in
    let d : hits x (run (b + r.size) (n - (b + r.size))) ≡ hits x (run (b + r.size) (n - b - r.size)) = ap (λ (s : ℕ). hits x (run (b + r.size) s)) (omega arith) in
    omega (arith, end_covers (b + r.size) T n e.2 x, q, d, hits_split x (run b (n - b)) r.size (omega arith))

pub joined_perm : {fs gs : List (List Run)} → Permᴰ fs gs → Permᴰ (joined fs) (joined gs)
joined_perm mathlib.Core.List.Permᴰ.nil = mathlib.Core.List.Permᴰ.nil
joined_perm (mathlib.Core.List.Permᴰ.cons {b = b} e p) = rw e (mathlib.Core.List.Permᴰ.append_left b (joined_perm p))
joined_perm (mathlib.Core.List.Permᴰ.swap {a = a} {b = b} {l = l} e e') =
    rw (← e, ← e', ← append_assoc a b (joined l), ← append_assoc b a (joined l)) (mathlib.Core.List.Permᴰ.append_right (joined l) (mathlib.Core.List.Permᴰ.append_comm a b))
joined_perm (mathlib.Core.List.Permᴰ.trans p q) = mathlib.Core.List.Permᴰ.trans (joined_perm p) (joined_perm q)

pub whole_covers : (T : List Run) (n : ℕ) → EndToEnd 0 T n → (x : ℕ) → covers x T ≡ hits x (run 0 n)
whole_covers T n e x = end_covers 0 T n e x ∙ ap (λ (m : ℕ). hits x (run 0 m)) (omega arith)

pub all_path_order : (prv nxt : ℕ → ℕ) {fs gs : List (List Run)} → Permᴰ fs gs → AllPath prv nxt fs → AllPath prv nxt gs
all_path_order prv nxt mathlib.Core.List.Permᴰ.nil w = tt
all_path_order prv nxt (mathlib.Core.List.Permᴰ.cons e p) w = (subst (λ (f : List Run). Linked prv nxt 0 f) e w.0, all_path_order prv nxt p w.1)
all_path_order prv nxt (mathlib.Core.List.Permᴰ.swap e e') w = (subst (λ (f : List Run). Linked prv nxt 0 f) e' w.1.0, (subst (λ (f : List Run). Linked prv nxt 0 f) e w.0, w.1.1))
all_path_order prv nxt (mathlib.Core.List.Permᴰ.trans p q) w = all_path_order prv nxt q (all_path_order prv nxt p w)

-- laid chains and links ----------------------------------------------------------------------------

module _ (t : Bytes) where
  path_laid : (l : List Run) (p : ℕ) → Linked (prev_at t) (next_at t) p l → ((r : Run) → In r l → HoldsNode t r (prev_at t r.start) (next_at t r.start)) → Laid t l p
  path_laid [] p w g = tt
  path_laid (a ∷ l) p w g = (
    rw (w.0, w.1) at (g a (Memᴰ.head refl)),
    path_laid l (suc a.start) w.2 (λ r m. g r (Memᴰ.tail m)),
  )

  pub all_path_laid : (cs : List (List Run)) → AllPath (prev_at t) (next_at t) cs → ((r : Run) → In r (joined cs) → HoldsNode t r (prev_at t r.start) (next_at t r.start)) → AllLaid t cs
  all_path_laid [] w g = tt
  all_path_laid (c ∷ cs) w g = (path_laid c 0 w.0 (λ r m. g r (mem_left (joined cs) m)), all_path_laid cs w.1 (λ r m. g r (mem_right c m)))

module _ (n : ℕ) (small : n ≤ 1000000) (t : Bytes) where
  pub laid_path : (l : List Run) (p : ℕ) → p ≤ n → empties l ≡ 0 → ((x : ℕ) → covers x l ≤ hits x (run 0 n)) → Laid t l p
      → Linked (prev_at t) (next_at t) p l × ((r : Run) → In r l → HoldsNode t r (prev_at t r.start) (next_at t r.start) × (size_at t r.start ≡ r.size) × (prev_at t r.start ≤ n) × (next_at t r.start ≤ n))
  laid_path [] p hp e c w = (tt, λ r m. absurd (Memᴰ.not-nil m))
  laid_path (a ∷ l) p hp e c w =
      let cl : (x : ℕ) → covers x l ≤ hits x (run 0 n) = λ x. omega (arith, c x) in
      let el : empties l ≡ 0 = omega arith in
      let f : first l ≤ n = first_inside n l el cl in
      let i : a.start + a.size ≤ n = inside_of n a (omega arith) (λ x. omega (arith, c x)) in
      let rp = read_prev n small t a p (first l) hp f w.0 in
      let rn = read_next n small t a p (first l) hp f w.0 in
      let rs = read_size n small t a p (first l) hp f w.0 (omega arith) in
      let o = laid_path l (suc a.start) (omega arith) el cl w.1 in
      let form : HoldsNode t a (prev_at t a.start) (next_at t a.start) = rw (rp, rn) w.0 in (
        (rp, rn, o.0),
        λ r m. ⊎_elim
            (λ q. subst (λ (r : Run). HoldsNode t r (prev_at t r.start) (next_at t r.start) × (size_at t r.start ≡ r.size) × (prev_at t r.start ≤ n) × (next_at t r.start ≤ n)) (sym q)
            (form, rs, omega (arith, rp), omega (arith, rn)))
            (λ k. o.1 r k)
            (Memᴰ.cases_cons m),
      )

  module _ (L : Layout) (s : Holds n t L) (ns : List Run) (π : Permᴰ (runs L) ns) where
    -- the chain that a node is in: it is laid, its links are read back, and its nodes are nodes
    pub record Place (r : Run) : Type 0 where
      pub chain : List Run
      pub within : In r chain
      pub path : Linked (prev_at t) (next_at t) 0 chain
      pub form : HoldsNode t r (prev_at t r.start) (next_at t r.start)
      pub prev_in : prev_at t r.start ≤ n
      pub next_in : next_at t r.start ≤ n
      pub size_read : size_at t r.start ≡ r.size
      pub read : chain_at t n (first chain) ≡ chain
      pub out : (x : Run) → In x chain → In x ns

    pub place : (r : Run) → In r ns → Place r
    place r m =
        let w = chain_of r (L.free ∷ L.files) (mem_perm (mathlib.Core.List.Permᴰ.symm π) m) in
        let c : List Run = w.0 in
        let rest : List (List Run) = w.1 in
        let ρ : Permᴰ (runs L) (c ++ joined rest) = joined_perm w.2 in
        let a : Laid t c 0 × AllLaid t rest = all_laid_order t w.2 (s.free, s.files) in
        let e : empties c ≡ 0 = omega (arith, s.tiled.positive, empties_perm ρ, empties_append c (joined rest)) in
        let k : (x : ℕ) → covers x c ≤ hits x (run 0 n) = λ x. omega (arith, s.tiled.once x, covers_perm x ρ, covers_append x c (joined rest)) in
        let o = laid_path c 0 (omega arith) e k a.0 in
        record {
          chain = c;
          within = w.3;
          path = o.0;
          form = (o.1 r w.3).0;
          prev_in = (o.1 r w.3).2;
          next_in = (o.1 r w.3).3;
          size_read = (o.1 r w.3).1;
          read = chain_read n small t c 0 n (omega arith) e k a.0 (omega (arith, few s.tiled, length_perm ρ, length-append c (joined rest)));
          out = λ x i. mem_perm π (mem_perm (mathlib.Core.List.Permᴰ.symm ρ) (mem_left (joined rest) i));
        }
