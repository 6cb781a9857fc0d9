-- A walk back along a chain that writes a delete for each node.
use mathlib.Core.Path.{◌≡◌, refl, sym, ap, subst, subst⁻¹, ◌∙◌}
use mathlib.Core.List.{List, [], ◌∷◌, ◌++◌, append_assoc, append-nil}
use Prim.Native.Nat.{ℕ, suc, ◌+◌, ◌-◌, ◌*◌, ◌≤◌, ◌<◌}
use native.Mathlib.Omega.{arith}
use lib.ListN.{length, length-append}
use Rattle.fat_node.specs.Entry.{Bytes}
use Rattle.fat_node.specs.Node.{Run, prev_at}
use Rattle.fat_table.specs.Chain.{total, size_at, chain_at}
use Rattle.fat_table.specs.Steps.{first}
use Rattle.fat_table.proofs.Writes.{last_of}
use Rattle.fat_table.proofs.Unchanged.{total_append}
use Rattle.fat_walk.specs.Inner.Chains.{Standing, Chain, ChainFrom, LastIs, LastAt, none, node}
use Rattle.fat_walk.proofs.Nodes.{mid_prev, mid_size, mid_standing, mid_within}
use Rattle.fat_retrace.specs.History.{delete, gives}
use Rattle.fat_retrace.specs.Inner.Written.{Written, GivenUp}
use Rattle.fat_retrace.proofs.Puts.{written_none, written_long, written_on}
use Rattle.fat_retrace.proofs.Few.{length_gives}

-- the last node's index
last_is : (l : List Run) → LastIs l (last_of l 0)
last_is [] = none refl refl
last_is (a ∷ l) = go [] a l
  where
    go : (before : List Run) (x : Run) (m : List Run) → LastIs (before ++ x ∷ m) (last_of m (suc x.start))
    go before x [] = node before x refl refl
    go before x (y ∷ m) = subst (λ (z : List Run). LastIs z (last_of m (suc y.start))) (append_assoc before (x ∷ []) (y ∷ m)) (go (before ++ x ∷ []) y m)

pub index_none : (n : ℕ) (t : Bytes) (i : ℕ) → ChainFrom n t i → i ≡ 0 → LastIs (chain_at t n i) 0
index_none n t i c e = none (go (chain_at t n i) (c.at ∙ e)) refl
  where
    go : (l : List Run) → first l ≡ 0 → l ≡ []
    go [] h = refl
    go (r ∷ l) h = let z : ⊥ = omega arith in absurd z

pub index_last : (l : List Run) (b : ℕ) → LastAt l b → LastIs l (b + 1)
index_last l b w = node w.before w.node w.is (omega (arith, w.at))

-- the nodes behind index i are given up
pub record Giving (c : List Run) (k₀ : ℕ) (l₀ : List ℕ) (i k m : ℕ) (l : List ℕ) : Type 0 where
  pub left : List Run
  pub done : List Run
  pub is : c ≡ left ++ done
  pub end : LastIs left i
  pub put : Written (gives done) k₀ l₀ k l
  pub sum : m ≡ total done

pub giving_begin : (c : List Run) (k : ℕ) (l : List ℕ) (i : ℕ) → LastIs c i → Giving c k l i k 0 l
giving_begin c k l i e = record { left = c; done = []; is = sym (append-nil c); end = e; put = written_none k l; sum = refl }

pub giving_long : (c : List Run) (k₀ : ℕ) (l₀ : List ℕ) (i k m : ℕ) (l : List ℕ) → Giving c k₀ l₀ i k m l → length l ≡ length l₀
giving_long c k₀ l₀ i k m l g = written_long g.put

-- the node that is next
record Next (c : List Run) (i : ℕ) (done : List Run) : Type 0 where
  before : List Run
  x : Run
  is : c ≡ before ++ x ∷ done
  at : x.start ≡ i - 1

next_of : (c left done : List Run) (i : ℕ) → c ≡ left ++ done → LastIs left i → (i ≡ 0 → ⊥) → Next c i done
next_of c left done i e (none p q) h = absurd (h q)
next_of c left done i e (node before y p q) h = record {
  before = before;
  x = y;
  is = e ∙ ap (λ (z : List Run). z ++ done) p ∙ append_assoc before (y ∷ []) done;
  at = omega (arith, q);
}

ended : (left : List Run) (i : ℕ) → LastIs left i → i ≡ 0 → left ≡ []
ended left i (none p q) h = p
ended left i (node before y p q) h = let z : ⊥ = omega (arith, q, h) in absurd z

module _ (n : ℕ) (t : Bytes) (c : List Run) (k₀ : ℕ) (l₀ : List ℕ) (i k m : ℕ) (l : List ℕ) (C : Chain n t c) (g : Giving c k₀ l₀ i k m l) where
  pub giving_end : i ≡ 0 → GivenUp c k₀ l₀ k m l
  giving_end h =
      let e : c ≡ g.done = g.is ∙ ap (λ (x : List Run). x ++ g.done) (ended g.left i g.end h) in
      record {
        written = subst⁻¹ (λ (x : List Run). Written (gives x) k₀ l₀ k l) e g.put;
        blocks = g.sum ∙ ap total (sym e);
      }

  module _ (h : i ≡ 0 → ⊥) where
    abbrev at : Next c i g.done
    at = next_of c g.left g.done i g.is g.end h

    chain_here : Chain n t (at.before ++ at.x ∷ g.done)
    chain_here = subst (Chain n t) at.is C

    pub giving_standing : Standing n t (i - 1)
    giving_standing = subst (Standing n t) at.at (mid_standing n t at.before at.x g.done chain_here)

    pub giving_room : 8 * (i - 1) + 16 ≤ length t
    giving_room = let s = giving_standing in omega (arith, s.room, s.node.some, s.node.within)

    size_here : size_at t (i - 1) ≡ at.x.size
    size_here = ap (size_at t) (sym at.at) ∙ mid_size n t at.before at.x g.done chain_here

    -- there is room for the next call, and the numbers are small
    pub giving_place : 2 * (k₀ + length c) ≤ length l₀ → 2 * k + 2 ≤ length l
    giving_place o =
        omega (
          arith,
          o,
          written_long g.put,
          g.put.next,
          length_gives g.done,
          ap {B = ℕ} length at.is,
          length-append at.before (at.x ∷ g.done),
        )

    pub giving_small : i - 1 ≤ 1000000
    giving_small = omega (arith, at.at, mid_within n t at.before at.x g.done chain_here, C.few)

    pub giving_less : (r : ℕ) → 2 * (k₀ + length c) ≤ length l₀ → r ≡ k + 1 → length l₀ - r < length l₀ - k
    giving_less r o q = omega (arith, giving_place o, written_long g.put, q)

    pub giving_sum : (s : ℕ) → s ≡ size_at t (i - 1) → m + s ≤ 1000000
    giving_sum s e = omega (arith, e, size_here, g.sum, C.sum, C.few, ap total at.is, total_append at.before (at.x ∷ g.done))

    pub giving_on : (s r p : ℕ) (l' : List ℕ) → s ≡ size_at t (i - 1) → p ≡ prev_at t (i - 1) → Written (delete (i - 1) ∷ []) k l r l'
        → Giving c k₀ l₀ p r (m + s) l'
    giving_on s r p l' e f q =
        let y : Run = at.x in
        record {
          left = at.before;
          done = y ∷ g.done;
          is = at.is;
          end = subst⁻¹ (LastIs at.before) (f ∙ ap (prev_at t) (sym at.at) ∙ mid_prev n t at.before y g.done chain_here) (last_is at.before);
          put = written_on g.put (subst⁻¹ (λ (b : ℕ). Written (delete b ∷ []) k l r l') at.at q);
          sum = omega (arith, g.sum, e, size_here);
        }
