-- Along a whole chain, node by node: what is done of the nodes passed is done of the whole chain at its end.
use mathlib.Core.Path.{◌≡◌, refl, sym, ap, subst, subst⁻¹, ◌∙◌}
use mathlib.Core.List.{List, [], ◌∷◌, ◌++◌, append_assoc}
use mathlib.Core.Bool.{Bool, true, false, ◌||◌}
use Prim.Native.Nat.{ℕ, suc, ◌+◌, ◌-◌, ◌≤◌, ◌<◌}
use native.Mathlib.Omega.{arith}
use Rattle.fat_node.specs.Entry.{Bytes}
use Rattle.fat_node.specs.Node.{Run, run, NodeAt, next_at}
use Rattle.fat_node.proofs.Nodes.{node_one}
use Rattle.fat_table.specs.Chain.{total}
use Rattle.salvage.specs.Follow.{salvaged}
use Rattle.salvage.proofs.Bounds.{Apart, apart_none, total_apart}
use Rattle.salvage.proofs.Follows.{Stands, stop, node, left}
use Rattle.salvage_shared.specs.Shared.{twice, meets}
use Rattle.salvage_shared.specs.Inner.Says.{Counts, Added, MeetsRun, MeetsRuns, NodeHere, WholeAt}
use Rattle.salvage_shared.proofs.Counted.{added_none, added_append, meets_append}

-- at index i of the chain that block b starts, with P of the nodes passed, and `room` blocks or fewer left
pub record Going (n : ℕ) (t : Bytes) (b i room : ℕ) (P : List Run → Type 0) : Type 0 where
  pub passed : List Run
  pub rest : List Run
  pub is : (salvaged n t b).runs ≡ passed ++ rest
  pub before : ℕ
  pub end : ℕ
  pub stands : Stands n t before i rest end
  pub ends : end ≡ 0
  pub fits : total rest ≤ room
  pub done : P passed

pub going_begin : (n : ℕ) (t : Bytes) (b i : ℕ) (P : List Run → Type 0) → (salvaged n t b).why.rule ≡ 0 → i ≡ b + 1 → P [] → Going n t b i n P
going_begin n t b i P e q p =
    let o = left (suc n) n t [] 0 (suc b) (apart_none n) in
    let s : suc b ≡ i = omega (arith, q) in
    record {
      passed = [];
      rest = o.rest;
      is = o.is;
      before = 0;
      end = o.end;
      stands = subst (λ (j : ℕ). Stands n t 0 j o.rest o.end) s o.stands;
      ends = o.whole e;
      fits = total_apart n o.rest (subst (Apart n) o.is o.apart);
      done = p;
    }

-- the first node of what is left
record Here (n : ℕ) (t : Bytes) (i : ℕ) (rest : List Run) (end : ℕ) : Type 0 where
  pub size : ℕ
  pub after : List Run
  pub is : rest ≡ run (i - 1) size ∷ after
  pub node : NodeAt t n (i - 1) size
  pub on : Stands n t i (next_at t (i - 1)) after end

here_of : (n : ℕ) (t : Bytes) (p i : ℕ) (rest : List Run) (end : ℕ) → Stands n t p i rest end → end ≡ 0 → 0 < i → Here n t i rest end
here_of n t p i rest end stop z h = absurd (omega (arith, h, z))
here_of n t p i rest end (node {b = b} {s} {l = l} w back r) z h =
    let q : b ≡ suc b - 1 = omega arith in
    record {
      size = s;
      after = l;
      is = ap (λ (j : ℕ). run j s ∷ l) q;
      node = subst (λ (j : ℕ). NodeAt t n j s) q w;
      on = subst (λ (j : ℕ). Stands n t (suc b) (next_at t j) l end) q r;
    }

none_left : (n : ℕ) (t : Bytes) (p i : ℕ) (rest : List Run) (end : ℕ) → Stands n t p i rest end → i ≡ 0 → rest ≡ []
none_left n t p i rest end stop z = refl
none_left n t p i rest end (node {b = b} w back r) z = absurd (omega (arith, z))

module _ (n : ℕ) (t : Bytes) (b i room : ℕ) (P : List Run → Type 0) (w : Going n t b i room P) where
  module _ (h : (i ≡ 0) → ⊥) where
    some : 0 < i
    some = omega (arith, h)

    at : Here n t i w.rest w.end
    at = here_of n t w.before i w.rest w.end w.stands w.ends some

    pub going_here : (v : List ℕ) → WholeAt n t v b → NodeHere n t (i - 1)
    going_here v a = record { room = a.sized.room; small = a.sized.small; node = (at.size, at.node) }

    module _ (s : ℕ) (k : NodeAt t n (i - 1) s) where
      size : s ≡ at.size
      size = node_one t n (i - 1) s at.size k at.node

      first : w.rest ≡ run (i - 1) s ∷ at.after
      first = at.is ∙ ap (λ (m : ℕ). run (i - 1) m ∷ at.after) (sym size)

      -- what P of the nodes passed gives of one more
      pub going_on : (q : ℕ) (Q : List Run → Type 0) → q ≡ next_at t (i - 1) → ((l : List Run) → P l → Q (l ++ run (i - 1) s ∷ [])) → Going n t b q (room - s) Q
      going_on q Q f g = record {
        passed = w.passed ++ run (i - 1) s ∷ [];
        rest = at.after;
        is = w.is ∙ ap (λ (r : List Run). w.passed ++ r) first ∙ sym (append_assoc w.passed (run (i - 1) s ∷ []) at.after);
        before = i;
        end = w.end;
        stands = subst⁻¹ (λ (j : ℕ). Stands n t i j at.after w.end) f at.on;
        ends = w.ends;
        fits = omega (arith, w.fits, ap total first);
        done = g w.passed w.done;
      }

      -- a node that meets makes the chain meet
      pub going_met : (l : List Run) → twice s (i - 1) l ≡ true → meets (salvaged n t b).runs l ≡ true
      going_met l e =
          ap (λ (c : List Run). meets c l) (w.is ∙ ap (λ (r : List Run). w.passed ++ r) first)
          ∙ meets_append w.passed (run (i - 1) s ∷ at.after) l
          ∙ ap (λ (x : Bool). meets w.passed l || (x || meets at.after l)) e
          ∙ or_true (meets w.passed l)
        where
          or_true : (x : Bool) → (x || true) ≡ true
          or_true true = refl
          or_true false = refl

-- ---- counting along a chain

pub lay_begin : (n : ℕ) (t : Bytes) (w : List ℕ) (b i : ℕ) → WholeAt n t w b → i ≡ b + 1 → Going n t b i n (Added w w)
lay_begin n t w b i a e = going_begin n t b i (Added w w) a.whole e (added_none w)

module _ (n : ℕ) (t : Bytes) (b i room : ℕ) (w₀ w : List ℕ) (g : Going n t b i room (Added w₀ w)) (h : (i ≡ 0) → ⊥) (s : ℕ) (k : NodeAt t n (i - 1) s) where
  pub lay_on : (q : ℕ) (w' : List ℕ) → q ≡ next_at t (i - 1) → Added w w' (run (i - 1) s ∷ []) → Going n t b q (room - s) (Added w₀ w')
  lay_on q w' e a = going_on n t b i room (Added w₀ w) g h s k q (Added w₀ w') e (λ l d. added_append w₀ w w' l (run (i - 1) s ∷ []) d a)

-- ---- looking along a chain

-- no block of these nodes is counted twice
pub record Alone (w : List ℕ) (c : List Run) : Type 0 where
  pub is : (l : List Run) → Counts w l → meets c l ≡ false

pub meet_begin : (n : ℕ) (t : Bytes) (w : List ℕ) (b i : ℕ) → WholeAt n t w b → i ≡ b + 1 → Going n t b i n (Alone w)
meet_begin n t w b i a e = going_begin n t b i (Alone w) a.whole e (record { is = λ l c. refl })

module _ (n : ℕ) (t : Bytes) (b i room : ℕ) (w : List ℕ) (g : Going n t b i room (Alone w)) where
  module _ (h : (i ≡ 0) → ⊥) (s : ℕ) (k : NodeAt t n (i - 1) s) (r : Bool) (m : MeetsRun w (i - 1) s r) where
    pub meet_found : r ≡ true → MeetsRuns w (salvaged n t b).runs true
    meet_found e = record { is = λ l c. sym (going_met n t b i room (Alone w) g h s k l (sym (m.is l c) ∙ e)) }

    pub meet_on : (q : ℕ) → r ≡ false → q ≡ next_at t (i - 1) → Going n t b q (room - s) (Alone w)
    meet_on q e f = going_on n t b i room (Alone w) g h s k q (Alone w) f
        (λ p a. record {
          is = λ l c.
              meets_append p (run (i - 1) s ∷ []) l
              ∙ ap (λ (x : Bool). x || (twice s (i - 1) l || false)) (a.is l c)
              ∙ ap (λ (x : Bool). x || false) (sym (m.is l c) ∙ e);
        })

-- what is read of a node
pub here_below : (n : ℕ) (t : Bytes) (b : ℕ) → NodeHere n t b → b < n
here_below n t b h = omega (arith, h.node.1.some, h.node.1.within)

-- a whole chain starts below n
pub whole_below : (n : ℕ) (t : Bytes) (w : List ℕ) (b : ℕ) → WholeAt n t w b → b + 1 < 18446744073709551616
whole_below n t w b a =
    let g = going_begin n t b (b + 1) (Added w w) a.whole refl (added_none w) in
    let h = going_here n t b (b + 1) n (Added w w) g (λ z. omega (arith, z)) w a in
    omega (arith, here_below n t (b + 1 - 1) h, a.sized.small)
