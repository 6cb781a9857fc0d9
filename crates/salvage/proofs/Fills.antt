-- The blocks of a followed chain written into a list.
use mathlib.Core.Path.{◌≡◌, refl, sym, ap, subst, subst⁻¹, ◌∙◌}
use mathlib.Core.List.{List, [], ◌∷◌, ◌++◌, append_assoc}
use Prim.Native.Nat.{ℕ, suc, ◌+◌, ◌-◌, ◌≤◌, ◌<◌}
use native.Mathlib.Omega.{arith}
use lib.ListN.{length}
use lib.Seq.{sets, length-sets}
use Rattle.fat_node.specs.Entry.{Bytes}
use Rattle.fat_node.specs.Node.{Run, run, NodeAt, next_at}
use Rattle.fat_node.proofs.Nodes.{node_one}
use Rattle.fat_table.specs.Chain.{total}
use Rattle.fat_table.proofs.Unchanged.{total_append}
use Rattle.fat_promises.specs.Blocks.{blocks_from, blocks_of}
use Rattle.fat_walk.proofs.Blocks.{sets_append, length_from}
use Rattle.salvage.specs.Follow.{salvaged}
use Rattle.salvage.proofs.Bounds.{apart_none}
use Rattle.salvage.proofs.Follows.{Stands, stop, node, left}

-- the blocks of some runs of the chain c are written, from place f on, and index i names the next
pub record Filling (n : ℕ) (t : Bytes) (c : List Run) (f : ℕ) (l₀ : List ℕ) (i at : ℕ) (l : List ℕ) : Type 0 where
  pub passed : List Run
  pub rest : List Run
  pub end : ℕ
  pub is : c ≡ passed ++ rest
  pub before : ℕ
  pub stands : Stands n t before i rest end
  pub sum : at ≡ total passed
  pub done : sets l₀ f (blocks_of c) ≡ sets l (f + at) (blocks_of rest)
  pub long : length l ≡ length l₀

pub fill_begin : (n : ℕ) (t : Bytes) (first f : ℕ) (l : List ℕ) (i : ℕ) → i ≡ first + 1 → Filling n t (salvaged n t first).runs f l i 0 l
fill_begin n t first f l i e =
    let o = left (suc n) n t [] 0 (suc first) (apart_none n) in
    let q : suc first ≡ i = omega (arith, e) in
    record {
      passed = [];
      rest = o.rest;
      end = o.end;
      is = o.is;
      before = 0;
      stands = subst (λ (j : ℕ). Stands n t 0 j o.rest o.end) q o.stands;
      sum = refl;
      done = ap (λ (c : List Run). sets l f (blocks_of c)) o.is ∙ ap (λ (k : ℕ). sets l k (blocks_of o.rest)) (let z : f ≡ f + 0 = omega arith in z);
      long = refl;
    }

-- the first run of what is left
pub record Here (n : ℕ) (t : Bytes) (i : ℕ) (rest : List Run) (end : ℕ) : Type 0 where
  pub size : ℕ
  pub after : List Run
  pub is : rest ≡ run (i - 1) size ∷ after
  pub node : NodeAt t n (i - 1) size
  pub on : Stands n t i (next_at t (i - 1)) after end
  pub some : 0 < i

here_of : (n : ℕ) (t : Bytes) (p i : ℕ) (rest : List Run) (end : ℕ) → Stands n t p i rest end → 0 < total rest → Here n t i rest end
here_of n t p i rest end stop h = absurd (omega (arith, h))
here_of n t p i rest end (node {b = b} {s} {l = l} w back r) h =
    let q : b ≡ suc b - 1 = omega arith in
    record {
      size = s;
      after = l;
      is = ap (λ (j : ℕ). run j s ∷ l) q;
      node = subst (λ (j : ℕ). NodeAt t n j s) q w;
      on = subst (λ (j : ℕ). Stands n t (suc b) (next_at t j) l end) q r;
      some = omega arith;
    }

empty : (n : ℕ) (t : Bytes) (p i : ℕ) (rest : List Run) (end : ℕ) → Stands n t p i rest end → total rest ≡ 0 → rest ≡ []
empty n t p i rest end stop h = refl
empty n t p i rest end (node {b = b} {s} w back r) h = absurd (omega (arith, h, w.some))

module _ (n : ℕ) (t : Bytes) (c : List Run) (f : ℕ) (l₀ : List ℕ) (i at : ℕ) (l : List ℕ) (w : Filling n t c f l₀ i at l) (count : ℕ) (ec : count ≡ total c) where
  sums : count ≡ at + total w.rest
  sums = omega (arith, ec, ap total w.is, total_append w.passed w.rest, w.sum)

  pub fill_end : count ≤ at → l ≡ sets l₀ f (blocks_of c)
  fill_end h = sym (w.done ∙ ap (λ (r : List Run). sets l (f + at) (blocks_of r)) (empty n t w.before i w.rest w.end w.stands (omega (arith, sums, h))))

  module _ (h : at < count) where
    here : Here n t i w.rest w.end
    here = here_of n t w.before i w.rest w.end w.stands (omega (arith, sums, h))

    pub fill_some : 1 ≤ i
    fill_some = here.some

    pub fill_node : (s : ℕ) × NodeAt t n (i - 1) s
    fill_node = (here.size, here.node)

    pub fill_below : i - 1 < n
    fill_below = omega (arith, here.node.some, here.node.within)

    module _ (s : ℕ) (k : NodeAt t n (i - 1) s) where
      size : s ≡ here.size
      size = node_one t n (i - 1) s here.size k here.node

      pub fill_fits : (at + s ≤ count) × (1 ≤ s) × ((i - 1) + s ≤ n)
      fill_fits = (omega (arith, sums, ap total here.is, size), omega (arith, k.some), k.within)

      pub fill_next : (q : ℕ) (l' : List ℕ) → q ≡ next_at t (i - 1) → l' ≡ sets l (f + at) (blocks_from s (i - 1)) → Filling n t c f l₀ q (at + s) l'
      fill_next q l' e p =
          let z : w.rest ≡ run (i - 1) s ∷ here.after = here.is ∙ ap (λ (m : ℕ). run (i - 1) m ∷ here.after) (sym size) in
          let g : f + at + s ≡ f + (at + s) = omega arith in
          record {
            passed = w.passed ++ run (i - 1) s ∷ [];
            rest = here.after;
            end = w.end;
            is = w.is ∙ ap (λ (r : List Run). w.passed ++ r) z ∙ sym (append_assoc w.passed (run (i - 1) s ∷ []) here.after);
            before = i;
            stands = subst⁻¹ (λ (j : ℕ). Stands n t i j here.after w.end) e here.on;
            sum = omega (arith, w.sum, total_append w.passed (run (i - 1) s ∷ []));
            done = w.done
                ∙ ap (λ (r : List Run). sets l (f + at) (blocks_of r)) z
                ∙ sets_append (blocks_from s (i - 1)) (blocks_of here.after) l (f + at)
                ∙ ap (λ (j : ℕ). sets (sets l (f + at) (blocks_from s (i - 1))) (f + at + j) (blocks_of here.after)) (length_from s (i - 1))
                ∙ ap (λ (j : ℕ). sets (sets l (f + at) (blocks_from s (i - 1))) j (blocks_of here.after)) g
                ∙ ap (λ (y : List ℕ). sets y (f + (at + s)) (blocks_of here.after)) (sym p);
            long = ap length p ∙ length-sets l (f + at) (blocks_from s (i - 1)) ∙ w.long;
          }
