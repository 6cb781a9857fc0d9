-- The number of nodes, counted block by block.
use mathlib.Core.Path.{refl, sym, subst}
use mathlib.Core.List.Memᴰ
use mathlib.Core.List.Permᴰ
use mathlib.Core.List.{List, [], ◌∷◌}
use Prim.Native.Nat.{ℕ, zero, suc, ◌+◌, ◌-◌, ◌<◌}
use native.Mathlib.Omega.{arith}
use lib.ListN.{length}
use Rattle.fat_node.specs.Entry.{Bytes}
use Rattle.fat_node.specs.Node.{Run, NodeAt}
use Rattle.fat_table.specs.Sound.{IsNode, Counted, none, one, skip}
use Rattle.fat_table.specs.Chain.{free_at}
use Rattle.fat_table.specs.Counts.{nodes}
use Rattle.fat_table.specs.Layout.{Layout, layout}
use Rattle.fat_table.proofs.Chains.{In, mem_perm}
use Rattle.fat_table.proofs.Layouts.{EndToEnd}
use Rattle.fat_table.proofs.Sounds.{run_node}
use Rattle.fat_table.proofs.Files.{Whole}
use Rattle.fat_walk.proofs.Hops.{starts_after}
use Rattle.fat_retrace.specs.History.{files_in}
use Rattle.fat_retrace.proofs.Found.{Read, read}

module _ (n : ℕ) (t : Bytes) (w : Whole n t) where
  -- no node starts inside another
  over : (b s : ℕ) → IsNode t n b → NodeAt t n b s → (k d : ℕ) → d < s → Counted (IsNode t n) (b + 1) k → Counted (IsNode t n) (b + 1 + d) k
  over b s i m k zero h p = subst (λ (x : ℕ). Counted (IsNode t n) x k) (omega arith) p
  over b s i m k (suc d) h p =
      subst (λ (x : ℕ). Counted (IsNode t n) x k) (omega arith)
      (skip (over b s i m k d (omega arith) p) (λ j. omega (arith, h, starts_after n t w b s (b + 1 + d) i m j (omega arith))))

  count_from : (b : ℕ) (T : List Run) (k : ℕ) → EndToEnd b T n → ((r : Run) → In r T → IsNode t n r.start × NodeAt t n r.start r.size)
      → Counted (IsNode t n) b k
      → Counted (IsNode t n) n (k + length T)
  count_from b [] k e g p = subst (λ (x : ℕ). Counted (IsNode t n) n x) (omega arith) (subst (λ (x : ℕ). Counted (IsNode t n) x k) e p)
  count_from b (r ∷ T) k e g p =
      let m = g r (Memᴰ.head refl) in
      let q : Counted (IsNode t n) r.start k = subst (λ (x : ℕ). Counted (IsNode t n) x k) (sym e.0) p in
      let o : Counted (IsNode t n) (r.start + 1) (k + 1) = one q m.0 in
      let v : Counted (IsNode t n) (b + r.size) (k + 1) =
      subst (λ (x : ℕ). Counted (IsNode t n) x (k + 1)) (omega (arith, e.0, e.1)) (over r.start r.size m.0 m.1 (k + 1) (r.size - 1) (omega (arith, e.1)) o) in
      subst (Counted (IsNode t n) n) (omega arith) (count_from (b + r.size) T (k + 1) e.2 (λ x i. g x (Memᴰ.tail i)) v)

  pub counted : Counted (IsNode t n) n (length (nodes n t))
  counted =
      let r : Read n t = read n t w in
      let L : Layout = layout (free_at n t) (files_in n t (nodes n t)) in
      subst (Counted (IsNode t n) n) (omega arith)
      (count_from 0 (nodes n t) 0 r.cover (λ x i. run_node n w.small t L r.holds x (mem_perm (Permᴰ.symm r.perm) i)) none)
